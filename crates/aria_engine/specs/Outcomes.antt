-- What a line came to.
use Rattle.std.specs.Prelude.{Bool, true, false}
use Rattle.aria_engine.specs.declared.outcome.Outcome.{Outcome}
use Rattle.aria_engine.specs.declared.outcome.Outcome.TheVariants.{Blank, Accepted, Refused}

-- the line's statement was refused
abbrev pub was_refused : Outcome → Bool
was_refused Blank = false
was_refused Accepted = false
was_refused Refused = true

-- the line spells no statement
abbrev pub was_blank : Outcome → Bool
was_blank Blank = true
was_blank Accepted = false
was_blank Refused = false
