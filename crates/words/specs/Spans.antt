-- Spans as the code has them.
use Rattle.reading.specs.Bytes.{Span as Part}
use Rattle.words.specs.declared.span.Span.{Span}

-- A span of the code, as a definition has it.
abbrev pub as_span : Span → Part
as_span s = record { start = s.start; len = s.len }

-- A span of a definition, as the code has it.
abbrev pub told_span : Part → Span
told_span s = record { start = s.start; len = s.len }
