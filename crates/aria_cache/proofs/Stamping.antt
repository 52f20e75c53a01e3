-- The pinned pages get a log sequence number one by one.
use Rattle.std.proofs.Common.{◌≡◌, ◌∙◌, ◌||◌, ℕ, Bool, true, false, cond, List, [], ◌∷◌, ◌++◌, Option, None, Some, nat_eq, refl, sym, ap}
use Rattle.std.specs.Prelude.{option_map}
use Rattle.std.specs.List.{list_any}
use Rattle.std.specs.Map.{update}
use Rattle.std.proofs.lemmas.Cmp.{nat_eq_equiv}
use Rattle.std.proofs.lemmas.Bool.{eqb-true}
use Rattle.std.proofs.lemmas.List.Folds.{list_any-append}
use Rattle.aria_cache.specs.Frames.{Held, stamped, stamp_all}

once : (lsn : ℕ) (b : Bool) (o : Option Held) → cond b (option_map (stamped lsn) (option_map (stamped lsn) o)) (option_map (stamped lsn) o) ≡ option_map (stamped lsn) o
once lsn true None = refl
once lsn true (Some h) = refl
once lsn false o = refl

pub stamp_more : (pins : List ℕ) (k lsn : ℕ) (map : ℕ → Option Held) → stamp_all pins lsn (update nat_eq map k (option_map (stamped lsn) (map k))) ≡ stamp_all (pins ++ k ∷ []) lsn map
stamp_more pins k lsn map = λ i q. each q i
  where
    split : (q : ℕ) → list_any (nat_eq q) (pins ++ k ∷ []) ≡ (list_any (nat_eq q) pins || (nat_eq q k || false))
    split q = list_any-append (nat_eq q) (pins) (k ∷ [])

    by : (b t : Bool) (o p : Option Held) → (t ≡ true → o ≡ p) → cond b (option_map (stamped lsn) (cond t (option_map (stamped lsn) p) o)) (cond t (option_map (stamped lsn) p) o) ≡ cond (b || (t || false)) (option_map (stamped lsn) o) o
    by b true o p same = once lsn b p ∙ ap (option_map (stamped lsn)) (sym (same refl)) ∙ with_true b o
      where
        with_true : (b : Bool) (o : Option Held) → option_map (stamped lsn) o ≡ cond (b || true) (option_map (stamped lsn) o) o
        with_true true o = refl
        with_true false o = refl
    by true false o p same = refl
    by false false o p same = refl

    each : (q : ℕ) → stamp_all pins lsn (update nat_eq map k (option_map (stamped lsn) (map k))) q ≡ stamp_all (pins ++ k ∷ []) lsn map q
    each q = by (list_any (nat_eq q) pins) (nat_eq k q) (map q) (map k) (λ t. ap map (sym (eqb-true k q t)))
        ∙ ap (λ (t : Bool). cond (list_any (nat_eq q) pins || (t || false)) (option_map (stamped lsn) (map q)) (map q)) (nat_eq_equiv.symm k q)
        ∙ ap (λ (b : Bool). cond b (option_map (stamped lsn) (map q)) (map q)) (sym (split q))
