-- Pending undo records as a list of log sequence numbers, the oldest first.
use Rattle.std.proofs.Common.{◌≡◌, ◌∙◌, ℕ, suc, ◌-◌, ◌&&◌, not, Bool, true, false, cond, List, [], ◌∷◌, ◌++◌, length, ap, sym, refl, arith, Option, None, Some}
use Rattle.std.specs.Prelude.{is_some}
use Rattle.std.specs.Option.{option_map}
use Rattle.std.specs.List.{slice_get}
use Rattle.aria_record.specs.declared.record.Record.{Record}
use Rattle.aria_page.specs.declared.lsn.Lsn.{Lsn}
use Rattle.aria_record.specs.Logged.{Logged, lsn_at_place}
use Rattle.aria_recovery.specs.declared.chain.Chain.{Chain}
use Rattle.aria_recovery.specs.declared.link.Link.{Link}
use Rattle.aria_recovery.specs.Analysed.{HasChain}
use Rattle.aria_recovery.specs.Pending.{link_in, link_of, pended, pending_of, oldest, is_behind, is_linked, fails, unchained}
use Rattle.aria_recovery.proofs.Pending.{pending_push, first_failure, unchained_push}

-- a group's last record
pub link_last : (rs : List Record) (r : Record) → Some r ≡ slice_get rs (length rs - 1) → link_in r ≡ link_of rs
link_last [] r is = absurd (cc)
link_last (q ∷ []) r is = ap link_in (same q is)
  where
    same : (s : Record) → Some r ≡ Some s → r ≡ s
    same s e = cc
link_last (q ∷ s ∷ rest) r is = link_last (s ∷ rest) r (is ∙ ap (slice_get (q ∷ s ∷ rest)) (let e : length (q ∷ s ∷ rest) - 1 ≡ suc (length (s ∷ rest) - 1) = omega arith in e))

failed : (u : Option ℕ) (b : Bool) (place : ℕ) → cond (not (is_some (option_map lsn_at_place u)) && b) (Some (lsn_at_place place)) (option_map lsn_at_place u) ≡ option_map lsn_at_place (first_failure u (cond b (Some place) None))
failed None true place = refl
failed None false place = refl
failed (Some n) b place = refl

-- A GROUP MORE
pub chain_push : (checkpoint : Lsn) (old new : Chain) (gs : List Logged) (place : ℕ) (group : List Record) (at : Lsn) (link : Link) → HasChain checkpoint old gs → at ≡ lsn_at_place place → link ≡ link_of group
    → new.checkpoint ≡ old.checkpoint → new.unchained ≡ cond (not (is_some old.unchained) && (is_behind old.checkpoint at && not (is_linked link (pending_of gs)))) (Some at) old.unchained
    → new.pending.items ≡ oldest (pended place link (pending_of gs)) → HasChain checkpoint new (gs ++ record { at = place; group = group } ∷ [])
chain_push checkpoint old new gs place group at link has at_is link_is same failure pends = record {
  checkpoint_is = same ∙ has.checkpoint_is;
  pending = pends ∙ ap (λ (l : Link). oldest (pended place l (pending_of gs))) link_is ∙ ap oldest (sym (pending_push gs (record { at = place; group = group })));
  unchained = failure ∙ ap (λ (l : Lsn). by_parts old.unchained old.checkpoint l link) at_is ∙ ap (λ (l : Link). by_parts old.unchained old.checkpoint (lsn_at_place place) l) link_is
      ∙ ap (λ (u : Option Lsn). by_parts u old.checkpoint (lsn_at_place place) (link_of group)) has.unchained
      ∙ ap (λ (c : Lsn). by_parts (option_map lsn_at_place (unchained checkpoint gs)) c (lsn_at_place place) (link_of group)) has.checkpoint_is
      ∙ failed (unchained checkpoint gs) (fails checkpoint (pending_of gs) (record { at = place; group = group })) place
      ∙ ap (option_map lsn_at_place) (sym (unchained_push checkpoint gs (record { at = place; group = group })));
}
  where
    by_parts : Option Lsn → Lsn → Lsn → Link → Option Lsn
    by_parts u c l k = cond (not (is_some u) && (is_behind c l && not (is_linked k (pending_of gs)))) (Some l) u
