use Rattle.aria_page.specs.Lsn.{lsn_number}
use Rattle.std.proofs.Common.{◌≡◌, ◌∙◌, ◌∷◌, [], ◌<◌, ap, sym, refl, length, arith, true, false, ℕ, List, Option}
use Rattle.aria_cache.specs.Frames.{Held, held, stamp_all}
use Rattle.aria_cache.proofs.Stamping.{stamp_more}
use Rattle.aria_cache.proofs.frames.Frames.stamp_pins.Goals as goal

no_items : (xs : List ℕ) → (0 < length xs → ⊥) → xs ≡ []
no_items [] none = refl
no_items (x ∷ xs) none = absurd (none (omega arith))

pub loop-key-preserved : goal.loop-key-preserved
loop-key-preserved c =
    let before : ℕ → Option Held = held c.loop-key.self in
    let lsn : ℕ = lsn_number c.args.lsn in
    let pins : c.stamp.new.self.pins.items ≡ c.pop.new.self.items = ap (λ v. v.items) c.stamp.ensures.pins in
    record {
      held = ap (λ (ps : List ℕ). stamp_all ps lsn (held c.stamp.new.self)) pins
          ∙ ap (stamp_all c.pop.new.self.items lsn) c.stamp.ensures.held
          ∙ stamp_more c.pop.new.self.items c.in-Some.key lsn before
          ∙ ap (λ (ps : List ℕ). stamp_all ps lsn before) (sym c.in-Some.ensures.items) ∙ c.loop-key.invariant.held;
      room = c.stamp.ensures.room ∙ c.loop-key.invariant.room;
      count = c.stamp.ensures.count ∙ c.loop-key.invariant.count;
    }

pub returns-clause-held : goal.returns-clause-held
returns-clause-held c =
    let none : c.loop-key.self.pins.items ≡ [] = no_items c.loop-key.self.pins.items (λ more. absurd (let t : false ≡ true = c.in_default.ensures.variant.1 more in (cc))) in
    sym (ap (λ (ps : List ℕ). stamp_all ps (lsn_number c.args.lsn) (held c.loop-key.self)) none) ∙ c.loop-key.invariant.held
