use Rattle.std.proofs.Common.{ℕ, List, sym, subst}
use Rattle.std.specs.Str.{IsUtf8}
use Rattle.aria_readlog.proofs.Words.{word_is_text}
use Rattle.aria_readlog.proofs.line.word.Goals as goal

pub unreachable-requires : goal.unreachable-requires
unreachable-requires c =
    c.in_default.ensures.cases.0
    (subst (λ (bytes : List ℕ). IsUtf8 bytes) (sym c.as_slice.ensures.value) (word_is_text c.args.name.now c.as_slice.ensures.word))
