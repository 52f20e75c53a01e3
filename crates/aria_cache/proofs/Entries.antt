-- What the changes of an lru cache are to the map that its entries are.
use Rattle.std.proofs.Common.{◌≡◌, ◌∙◌, ◌+◌, ◌-◌, ◌<◌, ℕ, Bool, true, false, cond, not, List, [], ◌∷◌, length, take, Option, None, Some, is_some, nat_eq, refl, sym, ap, subst, arith, inl, inr}
use Rattle.std.specs.Prelude.{option_map, slice_get, IsTrue, IsSome}
use Rattle.std.specs.Option.{option_map_or}
use Rattle.std.specs.Map.{lookup, lookup_entry, remove_entry, set_value, keys_of, update}
use Rattle.std.specs.List.{IsDistinct, filter}
use Rattle.std.proofs.lemmas.Cmp.{nat_eq_equiv}
use Rattle.std.proofs.lemmas.Bool.{cases_Bool, eqb-true}
use Rattle.std.proofs.lemmas.List.{take_all}
use Rattle.std.proofs.lemmas.Map.Entries.{lookup-filter-keys}
use Rattle.std.proofs.lemmas.Map.{lookup-remove_entry, lookup-set_value, length-set_value}
use Rattle.lru.proofs.Pairs.{lookup-lookup_entry}
use Rattle.lru.proofs.CallerLemmas.{Contains-lookup_entry}
use Rattle.lru.specs.LruCache.{LruCache, promoted, put_entries}

module _ {V W : Type 0} (see : V → W) where
  -- the map that the entries are, each value as it is seen
  abbrev pub map_of : List (ℕ × V) → ℕ → Option W
  map_of es = λ q. option_map see (lookup (nat_eq q) es)

  seen_by : (b : Bool) (o p : Option V) → option_map see (cond b o p) ≡ cond b (option_map see o) (option_map see p)
  seen_by true o p = refl
  seen_by false o p = refl

  without : (k q : ℕ) (es : List (ℕ × V)) → IsDistinct nat_eq (keys_of es) → lookup (nat_eq q) (remove_entry (nat_eq k) es) ≡ cond (nat_eq k q) None (lookup (nat_eq q) es)
  without k q es distinct = lookup-remove_entry nat_eq_equiv (nat_eq k) (λ x y same. nat_eq_equiv.congr k x y same) q es distinct

  -- an entry is taken out
  pub removed : (k : ℕ) (es : List (ℕ × V)) → IsDistinct nat_eq (keys_of es) → map_of (remove_entry (nat_eq k) es) ≡ update nat_eq (map_of es) k None
  removed k es distinct = λ i q. (ap (option_map see) (without k q es distinct) ∙ seen_by (nat_eq k q) None (lookup (nat_eq q) es)) i

  first : (k q : ℕ) (es : List (ℕ × V)) (o : Option (ℕ × V)) → lookup_entry (nat_eq k) es ≡ o → IsDistinct nat_eq (keys_of es)
      → lookup (nat_eq q) (option_map_or (λ e. e ∷ remove_entry (nat_eq k) es) o es) ≡ lookup (nat_eq q) es
  first k q es None is distinct = refl
  first k q es (Some e) is distinct =
      let key : k ≡ e.0 = eqb-true k e.0 (Contains-lookup_entry (nat_eq k) es e is).1 in
      let here : lookup (nat_eq k) es ≡ Some e.1 = sym (lookup-lookup_entry (nat_eq k) es) ∙ ap (option_map (λ (f : ℕ × V). f.1)) is in
      elim (cases_Bool (nat_eq q e.0)) [
        | inl same ↦
            let q_is : k ≡ q = key ∙ sym (eqb-true q e.0 same) in
            ap (λ (b : Bool). cond b (Some e.1) (lookup (nat_eq q) (remove_entry (nat_eq k) es))) same ∙ sym (ap (λ (n : ℕ). lookup (nat_eq n) es) (sym q_is) ∙ here)
        | inr other ↦
            let apart : nat_eq k q ≡ false = nat_eq_equiv.symm k q ∙ ap (nat_eq q) key ∙ other in
            ap (λ (b : Bool). cond b (Some e.1) (lookup (nat_eq q) (remove_entry (nat_eq k) es))) other ∙ without k q es distinct
            ∙ ap (λ (b : Bool). cond b None (lookup (nat_eq q) es)) apart
      ]

  -- an entry goes to the front
  pub to_front : (k : ℕ) (es : List (ℕ × V)) → IsDistinct nat_eq (keys_of es) → map_of (promoted (nat_eq k) es) ≡ map_of es
  to_front k es distinct = λ i q. ap (option_map see) (first k q es (lookup_entry (nat_eq k) es) refl distinct) i

  -- the entries of some keys are taken out
  pub without_keys : (away : ℕ → Bool) (es : List (ℕ × V)) → map_of (filter (λ e. not (away e.0)) es) ≡ (λ q. cond (away q) None (map_of es q))
  without_keys away es = λ i q. each q i
    where
      turned_round : (b : Bool) (o : Option W) → cond (not b) o None ≡ cond b None o
      turned_round true o = refl
      turned_round false o = refl

      each : (q : ℕ) → map_of (filter (λ e. not (away e.0)) es) q ≡ cond (away q) None (map_of es q)
      each q = ap (option_map see) (lookup-filter-keys (nat_eq q) (λ k. not (away k)) (not (away q)) (λ k same. ap (λ (n : ℕ). not (away n)) (sym (eqb-true q k same))) es)
          ∙ seen_by (not (away q)) (lookup (nat_eq q) es) None
          ∙ turned_round (away q) (map_of es q)

  less_one : (k : ℕ) (es : List (ℕ × V)) → IsTrue (is_some (lookup (nat_eq k) es)) → length (remove_entry (nat_eq k) es) + 1 ≡ length es
  less_one k [] there = absurd (cc)
  less_one k (e ∷ es) there = (elim (nat_eq k e.0) as (λ b. nat_eq k e.0 ≡ b → length (remove_entry (nat_eq k) (e ∷ es)) + 1 ≡ length (e ∷ es)) [
    | true ↦ λ t. rw t (omega arith)
    | false ↦ λ t. let more = less_one k es (rw t at there) in rw t (omega (arith, more))
  ]) refl

  pub length-removed : (k : ℕ) (es : List (ℕ × V)) → IsTrue (is_some (lookup (nat_eq k) es)) → length (remove_entry (nat_eq k) es) + 1 ≡ length es
  length-removed = less_one

  front_long : (k : ℕ) (es : List (ℕ × V)) (o : Option (ℕ × V)) → lookup_entry (nat_eq k) es ≡ o → length (option_map_or (λ e. e ∷ remove_entry (nat_eq k) es) o es) ≡ length es
  front_long k es None is = refl
  front_long k es (Some e) is =
      let here : lookup (nat_eq k) es ≡ Some e.1 = sym (lookup-lookup_entry (nat_eq k) es) ∙ ap (option_map (λ (f : ℕ × V). f.1)) is in
      let there : IsTrue (is_some (lookup (nat_eq k) es)) = ap is_some here in
      let less = less_one k es there in omega (arith, less)

  pub length-promoted : (k : ℕ) (es : List (ℕ × V)) → length (promoted (nat_eq k) es) ≡ length es
  length-promoted k es = front_long k es (lookup_entry (nat_eq k) es) refl

  absent : (k : ℕ) (es : List (ℕ × V)) (o : Option (ℕ × V)) → lookup_entry (nat_eq k) es ≡ o → lookup (nat_eq k) es ≡ None → o ≡ None
  absent k es None is none = refl
  absent k es (Some e) is none = absurd (let here : lookup (nat_eq k) es ≡ Some e.1 = sym (lookup-lookup_entry (nat_eq k) es) ∙ ap (option_map (λ (f : ℕ × V). f.1)) is in (cc))

  -- an entry more, where there is room
  pub put_new : (c : LruCache ℕ V) (k : ℕ) (v : V) → lookup (nat_eq k) c.entries ≡ None → length c.entries < c.cap → put_entries nat_eq c k v ≡ (k, v) ∷ c.entries
  put_new c k v none fits =
      ap (λ (o : Option (ℕ × V)). option_map_or (λ e. (e.0, v) ∷ remove_entry (nat_eq k) c.entries) o ((k, v) ∷ take (c.cap - 1) c.entries)) (absent k c.entries (lookup_entry (nat_eq k) c.entries) refl none)
      ∙ ap (λ (l : List (ℕ × V)). (k, v) ∷ l) (take_all (c.cap - 1) c.entries (omega (arith, fits)))

  pub put_held : (c : LruCache ℕ V) (k : ℕ) (v : V) → lookup (nat_eq k) c.entries ≡ None → length c.entries < c.cap
      → map_of (put_entries nat_eq c k v) ≡ update nat_eq (map_of c.entries) k (Some (see v))
  put_held c k v none fits = ap map_of (put_new c k v none fits)
      ∙ (λ i q. (ap (λ (b : Bool). option_map see (cond b (Some v) (lookup (nat_eq q) c.entries))) (nat_eq_equiv.symm q k) ∙ seen_by (nat_eq k q) (Some v) (lookup (nat_eq q) c.entries)) i)

  set_at : (k q : ℕ) (es : List (ℕ × V)) (w : V) → IsSome (lookup (nat_eq k) es) → lookup (nat_eq q) (set_value (nat_eq k) es w) ≡ cond (nat_eq k q) (Some w) (lookup (nat_eq q) es)
  set_at k q es w there = lookup-set_value nat_eq_equiv (nat_eq k) (λ x y same. nat_eq_equiv.congr k x y same) q w es there

  -- an entry goes to the front and is changed there
  pub set_front : (k : ℕ) (es : List (ℕ × V)) (w : V) → IsDistinct nat_eq (keys_of es) → IsSome (lookup (nat_eq k) es)
      → map_of (set_value (nat_eq k) (promoted (nat_eq k) es) w) ≡ update nat_eq (map_of es) k (Some (see w))
  set_front k es w distinct there = λ i q. each q i
    where
      same : (q : ℕ) → lookup (nat_eq q) (promoted (nat_eq k) es) ≡ lookup (nat_eq q) es
      same q = first k q es (lookup_entry (nat_eq k) es) refl distinct

      each : (q : ℕ) → option_map see (lookup (nat_eq q) (set_value (nat_eq k) (promoted (nat_eq k) es) w)) ≡ cond (nat_eq k q) (Some (see w)) (option_map see (lookup (nat_eq q) es))
      each q = ap (option_map see) (set_at k q (promoted (nat_eq k) es) w (subst IsSome (sym (same k)) there))
          ∙ seen_by (nat_eq k q) (Some w) (lookup (nat_eq q) (promoted (nat_eq k) es))
          ∙ ap (λ (o : Option V). cond (nat_eq k q) (Some (see w)) (option_map see o)) (same q)

  pub length-set_front : (k : ℕ) (es : List (ℕ × V)) (w : V) → length (set_value (nat_eq k) (promoted (nat_eq k) es) w) ≡ length es
  length-set_front k es w = length-set_value (nat_eq k) (promoted (nat_eq k) es) w ∙ length-promoted k es

  -- the same, where the new value is seen as a change of the old one
  pub changed_front : (change : W → W) (k : ℕ) (es : List (ℕ × V)) (v w : V) → IsDistinct nat_eq (keys_of es) → Some v ≡ lookup (nat_eq k) es → see w ≡ change (see v)
      → map_of (set_value (nat_eq k) (promoted (nat_eq k) es) w) ≡ update nat_eq (map_of es) k (option_map change (map_of es k))
  changed_front change k es v w distinct was is = set_front k es w distinct (subst IsSome was refl)
      ∙ ap (λ (o : Option W). update nat_eq (map_of es) k o) (ap Some is ∙ ap (λ (o : Option V). option_map change (option_map see o)) was)

  -- an entry is changed where it stands
  pub changed : (change : W → W) (k : ℕ) (es : List (ℕ × V)) (v w : V) → Some v ≡ lookup (nat_eq k) es → see w ≡ change (see v)
      → map_of (set_value (nat_eq k) es w) ≡ update nat_eq (map_of es) k (option_map change (map_of es k))
  changed change k es v w was is = (λ i q. (ap (option_map see) (set_at k q es w (subst IsSome was refl)) ∙ seen_by (nat_eq k q) (Some w) (lookup (nat_eq q) es)) i)
      ∙ ap (λ (o : Option W). update nat_eq (map_of es) k o) (ap Some is ∙ ap (λ (o : Option V). option_map change (option_map see o)) was)

  at_front : (k : ℕ) (es : List (ℕ × V)) (o : Option (ℕ × V)) → lookup_entry (nat_eq k) es ≡ o → is_some (lookup (nat_eq k) es) ≡ true
      → option_map (λ e. see e.1) (slice_get (option_map_or (λ e. e ∷ remove_entry (nat_eq k) es) o es) 0) ≡ option_map see (lookup (nat_eq k) es)
  at_front k es None is there = absurd (let e : false ≡ true = ap (λ (o : Option (ℕ × V)). is_some (option_map (λ (f : ℕ × V). f.1) o)) (sym is) ∙ ap is_some (lookup-lookup_entry (nat_eq k) es) ∙ there in (cc))
  at_front k es (Some e) is there = ap (option_map see) (ap (option_map (λ (f : ℕ × V). f.1)) (sym is) ∙ lookup-lookup_entry (nat_eq k) es)

  -- the entry that went to the front
  pub front_promoted : (k : ℕ) (es : List (ℕ × V)) → is_some (lookup (nat_eq k) es) ≡ true → option_map (λ e. see e.1) (slice_get (promoted (nat_eq k) es) 0) ≡ option_map see (lookup (nat_eq k) es)
  front_promoted k es there = at_front k es (lookup_entry (nat_eq k) es) refl there
