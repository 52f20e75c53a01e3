-- Items that were read one by one are the only ones that the bytes spell.
use Rattle.std.proofs.Common.{◌≡◌, ℕ, ◌+◌, ◌<◌, ◌≤◌, List, [], ◌∷◌, ◌++◌, length, drop, Some, None, refl, sym, ap, subst, ◌∙◌, append_assoc, arith}
use Rattle.std.specs.List.{AllByRecursion}
use Rattle.std.proofs.lemmas.List.{append-nil, drop_at, length-append}
use Rattle.std.proofs.lemmas.Option.{same_Some}
use Rattle.aria_page.specs.Field.{AreBytes, Takes}
use Rattle.aria_page.proofs.Fields.{AreBytes-drop}
use Rattle.aria_keypage.specs.Item.{Item, IsItem}
use Rattle.aria_keypage.specs.Packed.{packed_item, packed, ArePacked}
use Rattle.aria_keypage.specs.StoredItem.{StoredItem, as_stored, stored_at, entry_of, IsStored}
use Rattle.aria_keypage.proofs.Stored.{IsRaw, raw_bytes, item_again, item_of, raw_of-item_of, item_of-fits, item_of-raw_of, packed_item_is, stored_of, length-raw_bytes}

-- the last entry of items behind an entry
abbrev pub last_entry : List ℕ → List Item → List ℕ
last_entry before [] = before
last_entry before (x ∷ xs) = last_entry x.entry xs

-- items behind others are packed behind the last entry of those
pub packed-append : (width : ℕ) (before : List ℕ) (xs ys : List Item) → packed width before (xs ++ ys) ≡ packed width before xs ++ packed width (last_entry before xs) ys
unfolding packed
packed-append width before [] ys = refl
packed-append width before (x ∷ xs) ys =
    ap (λ (l : List ℕ). packed_item width before x ++ l) (packed-append width x.entry xs ys)
    ∙ sym (append_assoc (packed_item width before x) (packed width x.entry xs) (packed width (last_entry x.entry xs) ys))

last-more : (before : List ℕ) (xs : List Item) (y : Item) → last_entry before (xs ++ y ∷ []) ≡ y.entry
last-more before [] y = refl
last-more before (x ∷ xs) y = last-more x.entry xs y

pub all-append : (P : Item → Type 0) (xs ys : List Item) → AllByRecursion P xs → AllByRecursion P ys → AllByRecursion P (xs ++ ys)
all-append P [] ys p q = q
all-append P (x ∷ xs) ys p q = (p.0, all-append P xs ys p.1 q)

-- the bytes are items that were read, and a rest
pub record Counted (width : ℕ) (bytes before rest : List ℕ) (count : ℕ) : Type 0 where
  pub done : List Item
  pub all : AllByRecursion (IsItem width) done
  pub parts : bytes ≡ packed width [] done ++ rest
  pub last : before ≡ last_entry [] done
  pub number : count ≡ length done
  pub room : count + length rest ≤ length bytes

-- none yet
pub counted-none : (width : ℕ) (bytes : List ℕ) → Counted width bytes [] bytes 0
unfolding packed
counted-none width bytes = record { done = []; all = tt; parts = refl; last = refl; number = refl; room = omega arith }

-- one more, which stands as it must
pub counted-more : (width : ℕ) (bytes before rest : List ℕ) (count : ℕ) (x : StoredItem × List ℕ) → Counted width bytes before rest count → Takes rest (raw_bytes x.0) x.1 → IsRaw width x.0 → IsStored before x.0
    → Counted width bytes (entry_of before x.0) x.1 (count + 1)
unfolding packed
counted-more width bytes before rest count x h takes raw stored =
    let item : Item = item_of before width x.0 in
    let one : packed_item width before item ≡ raw_bytes x.0 = packed_item_is width before item ∙ ap raw_bytes (raw_of-item_of width before x.0 raw stored) in
    let all : AllByRecursion (IsItem width) (h.done ++ item ∷ []) = all-append (IsItem width) h.done (item ∷ []) h.all (item_of-fits width before x.0 raw stored, tt) in
    let single : packed width (last_entry [] h.done) (item ∷ []) ≡ raw_bytes x.0 =
    append-nil (packed_item width (last_entry [] h.done) item) ∙ ap (λ (l : List ℕ). packed_item width l item) (sym h.last) ∙ one in
    let longer : packed width [] (h.done ++ item ∷ []) ≡ packed width [] h.done ++ raw_bytes x.0 =
    packed-append width [] h.done (item ∷ []) ∙ ap (λ (l : List ℕ). packed width [] h.done ++ l) single in
    let parts : bytes ≡ packed width [] (h.done ++ item ∷ []) ++ x.1 =
    h.parts ∙ ap (λ (l : List ℕ). packed width [] h.done ++ l) takes.parts ∙ sym (append_assoc (packed width [] h.done) (raw_bytes x.0) x.1) ∙ ap (λ (l : List ℕ). l ++ x.1) (sym longer) in
    record {
      done = h.done ++ item ∷ [];
      all = all;
      parts = parts;
      last = sym (last-more [] h.done item);
      number = omega (arith, h.number, length-append h.done (item ∷ []));
      room = omega (arith, h.room, ap length takes.parts, length-append (raw_bytes x.0) x.1, length-raw_bytes x.0);
    }

-- what is left of bytes is bytes
pub counted-bytes : (width : ℕ) (bytes before rest : List ℕ) (count : ℕ) → AreBytes bytes → Counted width bytes before rest count → AreBytes rest
counted-bytes width bytes before rest count are h =
    let same : drop (length (packed width [] h.done)) bytes ≡ rest = ap (drop (length (packed width [] h.done))) h.parts ∙ drop_at (packed width [] h.done) rest (length (packed width [] h.done)) refl in
    subst AreBytes same (AreBytes-drop (length (packed width [] h.done)) bytes are)

-- a rest is shorter by an item that was read
pub rest-shorter : (rest : List ℕ) (x : StoredItem × List ℕ) → Takes rest (raw_bytes x.0) x.1 → length x.1 < length rest
rest-shorter rest x takes = omega (arith, ap length takes.parts, length-append (raw_bytes x.0) x.1, length-raw_bytes x.0)

-- the items, and the bytes that they leave
pub record Goes_on (width : ℕ) (before rest : List ℕ) : Type 0 where
  pub more : List Item
  pub all : AllByRecursion (IsItem width) more
  pub is : rest ≡ packed width before more

-- items that begin the packed bytes of others are the first of those
pub items_go_on : (width : ℕ) (before rest : List ℕ) (done xs : List Item) → AllByRecursion (IsItem width) done → AllByRecursion (IsItem width) xs → packed width before done ++ rest ≡ packed width before xs
    → Goes_on width (last_entry before done) rest
unfolding packed
items_go_on width before rest [] xs p q e = record { more = xs; all = q; is = e }
items_go_on width before rest (x ∷ done) [] p q e =
    absurd (omega (arith, ap length e, length-append (packed_item width before x ++ packed width x.entry done) rest, length-append (packed_item width before x) (packed width x.entry done), ap length (packed_item_is width before x), length-raw_bytes (as_stored width before x)))
items_go_on width before rest (x ∷ done) (y ∷ xs) p q e =
    let whole : packed_item width before x ++ (packed width x.entry done ++ rest) ≡ packed_item width before y ++ packed width y.entry xs = sym (append_assoc (packed_item width before x) (packed width x.entry done) rest) ∙ e in
    let one : stored_at width (packed_item width before x ++ (packed width x.entry done ++ rest)) ≡ Some (as_stored width before x, packed width x.entry done ++ rest) = item_again width before x (packed width x.entry done ++ rest) p.0 in
    let two : stored_at width (packed_item width before y ++ packed width y.entry xs) ≡ Some (as_stored width before y, packed width y.entry xs) = item_again width before y (packed width y.entry xs) q.0 in
    let same = same_Some (as_stored width before x, packed width x.entry done ++ rest) (as_stored width before y, packed width y.entry xs) (sym one ∙ ap (stored_at width) whole ∙ two) in
    let item : x ≡ y = sym (item_of-raw_of width before x p.0.to) ∙ ap (λ (r : StoredItem × List ℕ). item_of before width r.0) same ∙ item_of-raw_of width before y q.0.to in
    let behind : packed width x.entry done ++ rest ≡ packed width x.entry xs = ap (λ (r : StoredItem × List ℕ). r.1) same ∙ ap (λ (z : Item). packed width z.entry xs) (sym item) in
    items_go_on width x.entry rest done xs p.1 q.1 behind

-- where nothing is read any more though bytes are left, no items spell the bytes
pub counted-stuck : (width : ℕ) (bytes before rest : List ℕ) (count : ℕ) (xs : List Item) → Counted width bytes before rest count → (length rest ≡ 0 → ⊥) → stored_at width rest ≡ None → ArePacked width xs bytes → ⊥
unfolding packed
counted-stuck width bytes before rest count xs h left none is =
    let on = items_go_on width [] rest h.done xs h.all is.all (sym h.parts ∙ is.is) in
    by on.more on.all on.is
  where
    by : (more : List Item) → AllByRecursion (IsItem width) more → rest ≡ packed width (last_entry [] h.done) more → ⊥
    by [] all e = left (ap length e)
    by (x ∷ more) all e =
        let some : stored_at width rest ≡ Some (as_stored width (last_entry [] h.done) x, packed width x.entry more) = ap (stored_at width) e ∙ item_again width (last_entry [] h.done) x (packed width x.entry more) all.0 in
        absurd cc

-- where what is read does not stand as it must, no items spell the bytes
pub counted-odd : (width : ℕ) (bytes before rest : List ℕ) (count : ℕ) (xs : List Item) (r : StoredItem × List ℕ) → Counted width bytes before rest count → (length rest ≡ 0 → ⊥) → stored_at width rest ≡ Some r → (IsStored before r.0 → ⊥) → ArePacked width xs bytes → ⊥
unfolding packed
counted-odd width bytes before rest count xs r h left read odd is =
    let on = items_go_on width [] rest h.done xs h.all is.all (sym h.parts ∙ is.is) in
    by on.more on.all on.is
  where
    by : (more : List Item) → AllByRecursion (IsItem width) more → rest ≡ packed width (last_entry [] h.done) more → ⊥
    by [] all e = left (ap length e)
    by (x ∷ more) all e =
        let last : List ℕ = last_entry [] h.done in
        let some : stored_at width rest ≡ Some (as_stored width last x, packed width x.entry more) = ap (stored_at width) e ∙ item_again width last x (packed width x.entry more) all.0 in
        let same = same_Some (as_stored width last x, packed width x.entry more) r (sym some ∙ read) in
        odd (subst (λ (b : List ℕ). IsStored b r.0) (sym h.last) (subst (λ (y : StoredItem × List ℕ). IsStored last y.0) same (stored_of width last x all.0)))

-- at the end the items are those that were read
pub counted-all : (width : ℕ) (bytes before rest : List ℕ) (count : ℕ) (h : Counted width bytes before rest count) → length rest ≡ 0 → ArePacked width h.done bytes
counted-all width bytes before rest count h ended = record { all = h.all; is = h.parts ∙ ap (λ (l : List ℕ). packed width [] h.done ++ l) (nothing rest ended) ∙ append-nil (packed width [] h.done) }
  where
    nothing : (l : List ℕ) → length l ≡ 0 → l ≡ []
    nothing [] e = refl
    nothing (x ∷ l) e = absurd (omega arith)
