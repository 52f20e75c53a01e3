use Rattle.std.proofs.Common.{◌≡◌, ◌∙◌, ◌++◌, ℕ, List, drop, sym, ap, arith}
use Rattle.std.specs.Prelude.{slice_index}
use Rattle.aria_page.specs.Number.{number, number_of}
use Rattle.aria_block.proofs.HeadText.{spelled}
use Rattle.aria_block.proofs.head_fields.numbers_in.Goals as goal

pub returns-clause-numbers : goal.returns-clause-numbers
returns-clause-numbers c =
    let bytes : List ℕ = c.args.bytes.now in
    let a : c.u32_of.result ≡ number_of 4 bytes = c.u32_of.ensures in
    let b : c.u32_of-2.result ≡ number_of 4 (drop 4 bytes) = c.u32_of-2.ensures ∙ ap (number_of 4) c.bytes_from.ensures.value in
    let d : c.u32_of-3.result ≡ number_of 4 (drop 9 bytes) = c.u32_of-3.ensures ∙ ap (number_of 4) c.bytes_from-2.ensures.value in
    record {
      spelled = spelled bytes (λ i. omega (arith, c.type_inv.bytes i)) c.requires
          ∙ (λ i. number 4 (sym a i) ++ (number 4 (sym b i) ++ (number 1 (slice_index bytes 8) ++ (number 4 (sym d i) ++ (number 1 (slice_index bytes 13) ++ drop 14 bytes)))));
    }
