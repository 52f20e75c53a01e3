-- How the page of the control file is made, and what it says.
use Rattle.std.proofs.Common.{◌≡◌, ℕ, List, ◌++◌, length, take, drop, replicate, refl, sym, ◌∙◌, ap, arith}
use Rattle.std.proofs.lemmas.List.{take_at, drop_at, drop-drop, drop-replicate, take-replicate}
use Rattle.aria_page.specs.Number.{number}
use Rattle.aria_page.specs.Crc.{checksum}
use Rattle.aria_page.specs.Lsn.{lsn_bytes, lsn_of}
use Rattle.aria_page.specs.Page.{with_bytes, zero_page, with_sum, summed}
use Rattle.aria_page.proofs.Numbers.{length-number}
use Rattle.aria_page.proofs.StoredLsn.{length-lsn_bytes, lsn_of-lsn_bytes}
use Rattle.aria_page.proofs.Pages.{drop-with_bytes}
use Rattle.aria_control.specs.declared.control.Control.{Control}
use Rattle.aria_control.specs.ControlPage.{magic, control_bytes, control_page, named_by, HasMagic, IsStorable}

-- the magic has eight bytes
length-magic : length magic ≡ 8
unfolding magic
length-magic = refl

-- behind a place of a page of zeros there are zeros
zeros_behind : drop 26 zero_page ≡ replicate 8166 0
unfolding zero_page
zeros_behind = drop-replicate 26 8192 0

-- the three parts put on a page of zeros, from the last to the first, and then the checksum
pub page_spelled : (zero p1 p2 p3 whole b1 b2 b3 : List ℕ) (control : Control) → zero ≡ zero_page → length zero ≡ 8192 → length p1 ≡ 8192 → length p2 ≡ 8192
    → p1 ≡ with_bytes 19 b1 zero → b1 ≡ lsn_bytes control.redo → p2 ≡ with_bytes 12 b2 p1 → b2 ≡ lsn_bytes control.checkpoint → p3 ≡ with_bytes 4 b3 p2 → b3 ≡ magic
    → whole ≡ summed p3 → whole ≡ control_page control
unfolding control_page control_bytes summed
page_spelled zero p1 p2 p3 whole b1 b2 b3 control z l0 l1 l2 e1 f1 e2 f2 e3 f3 e =
    let s1 : drop 19 p1 ≡ lsn_bytes control.redo ++ replicate 8166 0 =
    ap (drop 19) e1 ∙ drop-with_bytes 19 26 b1 zero (omega arith) (omega (arith, ap length f1, length-lsn_bytes control.redo)) ∙ ap (λ (l : List ℕ). l ++ drop 26 zero) f1
    ∙ ap (λ (l : List ℕ). lsn_bytes control.redo ++ l) (ap (drop 26) z ∙ zeros_behind) in
    let s2 : drop 12 p2 ≡ lsn_bytes control.checkpoint ++ drop 19 p1 =
    ap (drop 12) e2 ∙ drop-with_bytes 12 19 b2 p1 (omega arith) (omega (arith, ap length f2, length-lsn_bytes control.checkpoint)) ∙ ap (λ (l : List ℕ). l ++ drop 19 p1) f2 in
    let s3 : drop 4 p3 ≡ magic ++ drop 12 p2 =
    ap (drop 4) e3 ∙ drop-with_bytes 4 12 b3 p2 (omega arith) (omega (arith, ap length f3, length-magic)) ∙ ap (λ (l : List ℕ). l ++ drop 12 p2) f3 in
    e ∙ ap with_sum (s3 ∙ ap (λ (l : List ℕ). magic ++ l) (s2 ∙ ap (λ (l : List ℕ). lsn_bytes control.checkpoint ++ l) s1))

-- behind the checksum there is what it was set over
behind_sum : (bytes : List ℕ) → drop 4 (with_sum bytes) ≡ bytes
unfolding with_sum
behind_sum bytes = drop_at (number 4 (checksum bytes)) bytes 4 (length-number 4 (checksum bytes))

-- the bytes behind the magic
behind_magic : (control : Control) → drop 12 (control_page control) ≡ lsn_bytes control.checkpoint ++ (lsn_bytes control.redo ++ replicate 8166 0)
unfolding control_page control_bytes
behind_magic control =
    let rest : List ℕ = lsn_bytes control.checkpoint ++ (lsn_bytes control.redo ++ replicate 8166 0) in
    sym (drop-drop 8 4 (control_page control)) ∙ ap (drop 8) (behind_sum (magic ++ rest)) ∙ drop_at magic rest 8 length-magic

-- the bytes behind the checkpoint
behind_checkpoint : (control : Control) → drop 19 (control_page control) ≡ lsn_bytes control.redo ++ replicate 8166 0
behind_checkpoint control =
    sym (drop-drop 7 12 (control_page control)) ∙ ap (drop 7) (behind_magic control)
    ∙ drop_at (lsn_bytes control.checkpoint) (lsn_bytes control.redo ++ replicate 8166 0) 7 (length-lsn_bytes control.checkpoint)

-- the page names what it was made of
pub named_again : (control : Control) → IsStorable control → named_by (control_page control) ≡ control
unfolding named_by
named_again control is =
    let checkpoint : lsn_of (drop 12 (control_page control)) ≡ control.checkpoint =
    ap lsn_of (behind_magic control) ∙ lsn_of-lsn_bytes control.checkpoint (lsn_bytes control.redo ++ replicate 8166 0) is.checkpoint in
    let redo : lsn_of (drop 19 (control_page control)) ≡ control.redo = ap lsn_of (behind_checkpoint control) ∙ lsn_of-lsn_bytes control.redo (replicate 8166 0) is.redo in
    λ i. record { checkpoint = checkpoint i; redo = redo i }

-- controls with one page are one
pub one_page : (control other : Control) → IsStorable control → IsStorable other → control_page other ≡ control_page control → other ≡ control
one_page control other is also same = sym (named_again other also) ∙ ap named_by same ∙ named_again control is

-- the page has the magic
pub magic_there : (control : Control) → HasMagic (control_page control)
unfolding HasMagic control_page control_bytes
magic_there control =
    let rest : List ℕ = lsn_bytes control.checkpoint ++ (lsn_bytes control.redo ++ replicate 8166 0) in
    ap (take 8) (behind_sum (magic ++ rest)) ∙ take_at magic rest 8 length-magic

-- eight zeros aren't the magic
zeros_differ : replicate 8 0 ≡ magic → ⊥
unfolding magic
zeros_differ e = absurd (cc)

-- a page of zeros doesn't have the magic
pub magic_not_zero : (page : List ℕ) → HasMagic page → page ≡ zero_page → ⊥
unfolding HasMagic zero_page
magic_not_zero page is e =
    let zeros : take 8 (drop 4 page) ≡ replicate 8 0 = ap (λ (l : List ℕ). take 8 (drop 4 l)) e ∙ ap (take 8) (drop-replicate 4 8192 0) ∙ take-replicate 8 8188 0 (omega arith) in
    zeros_differ (sym zeros ∙ is)
