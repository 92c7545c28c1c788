-- What a term of SMT-LIB says: a solution whose names are bytes and whose numbers are numbers. There is no Iff, which is said as an equality, and no
-- output sort, which is not said.
use Rattle.std.specs.Prelude.{ℕ, suc, Bool, List}
use Rattle.grammar.specs.Expr.{BinOp, Relation}

-- Sorts; the last one is for those that no term says.
mutual
  pub data MeantSort : Type 0 where
    int_sort bool_sort real_sort string_sort : MeantSort
    bits_sort : ℕ → MeantSort
    array_sort : MeantSort → MeantSort → MeantSort
    data_sort : List ℕ → MeantSorts → MeantSort
    unsaid : MeantSort

  pub data MeantSorts : Type 0 where
    onil : MeantSorts
    ocons : MeantSort → MeantSorts → MeantSorts

-- A bound variable: its number and its sort.
pub record MeantVar : Type 0 where
  pub var : ℕ
  pub sort : MeantSort

-- What an expression is, but for its operands and but for calls.
pub data MeantKind : Type 0 where
  m_num : ℕ → MeantKind
  m_bool : Bool → MeantKind
  m_str : List ℕ → MeantKind
  m_bit_vec : ℕ → ℕ → MeantKind
  m_fresh : ℕ → MeantKind
  m_named : List ℕ → MeantKind
  m_neg : MeantKind
  m_bin : BinOp → MeantKind
  m_if m_and m_or m_not m_imp : MeantKind
  m_atom : Relation → MeantKind
  m_let : List ℕ → MeantKind
  m_theory : ℕ → MeantKind
  m_is_ctor : List ℕ → MeantKind
  m_exists : List MeantVar → MeantKind
  m_let_fresh : ℕ → MeantKind

-- An expression.
mutual
  pub data Meant : Type 0 where
    -- a kind and its operands
    says : MeantKind → Meants → Meant
    -- arguments and a head
    calls : Meants → Meant → Meant

  pub data Meants : Type 0 where
    mnil : Meants
    mcons : Meant → Meants → Meants

-- How many there are.
unfoldable pub meants : Meants → ℕ
meants mnil = 0
meants (mcons e es) = suc (meants es)

-- Parameters and what is said of them.
pub record MeantSolution : Type 0 where
  pub params : List MeantVar
  pub body : Meant
