-- The loop over a text: the recursion made flat, the arrays of open lists, and what each token does.
pub mod Stack
pub mod Held
pub mod WhichToken
pub mod Turn
pub mod Final
