-- What the log's files hold after a crash: a front of the groups that has all forced ones, and no damage.
use Rattle.std.proofs.Common.{◌≡◌, inl, inr, ℕ, zero, suc, ◌+◌, ◌*◌, ◌/◌, ◌%◌, ◌≤◌, Bool, true, false, cond, Option, None, Some, List, [], ◌∷◌, ◌++◌, length, take, drop, refl, sym, ◌∙◌, ap, subst, arith, append_assoc, length-append}
use Rattle.std.specs.Prelude.{All, IsSome, option_and_then, ◌||◌}
use Rattle.std.specs.List.{flat_map}
use Rattle.std.specs.Option.{option_map_or}
use Rattle.std.proofs.lemmas.Bool.{cases_lt}
use Rattle.std.proofs.lemmas.Grind.{flat_map-append}
use Rattle.std.proofs.lemmas.List.{append-nil, take-append-drop, take-append-le, take_all, length-take, length_push}
use Rattle.std.proofs.lemmas.List.Elements.{All-push}
use Rattle.std.proofs.lemmas.Option.{same_Some}
use Rattle.aria_record.specs.declared.record.Record.{Record}
use Rattle.aria_record.specs.Groups.{IsGroup}
use Rattle.aria_record.specs.Spelled.{group_bytes}
use Rattle.aria_log.specs.Pieces.{Piece, Pieces, LogFiles, pieces_of, next_piece, Stand, may_behind}
use Rattle.aria_record.specs.Logged.{Logged}
use Rattle.aria_log.specs.Groups.{placed, groups_bytes, groups_at, groups_from}
use Rattle.aria_log.specs.Files.{HoldsLog, IsBase, IsSoundLog, HoldsFrom}
use Rattle.aria_log.specs.Log.{AreFull, joined, file_of, behind, FilesStand, HoldsRun, IsImage, IsStrict, IsBaseOf}
use Rattle.aria_log.proofs.Counting.{below_or_same}
use Rattle.aria_log.proofs.PutPages.{none_isnt}
use Rattle.aria_log.proofs.GroupLists.{HoldsFront, front_holds}
use Rattle.aria_log.proofs.Fronts.{Left, part_left, stand-append, may_behind-append, pieces_of_run, length-pieces_of_run, groups-append}

-- ---- placed groups

pub no_bytes : [] ≡ groups_bytes []
unfolding groups_bytes
no_bytes = refl

pub length-placed : (place : ℕ) (groups : List (List Record)) → length (placed place groups) ≡ length groups
length-placed place [] = refl
length-placed place (group ∷ groups) = ap suc (length-placed (place + length (group_bytes group)) groups)

pub take-placed : (n place : ℕ) (groups : List (List Record)) → take n (placed place groups) ≡ placed place (take n groups)
take-placed zero place groups = refl
take-placed (suc n) place [] = refl
take-placed (suc n) place (group ∷ groups) = ap (λ (l : List Logged). record { at = place; group = group } ∷ l) (take-placed n (place + length (group_bytes group)) groups)

-- a group more stands behind the bytes of the others
pub placed-push : (place : ℕ) (groups : List (List Record)) (group : List Record) → placed place (groups ++ group ∷ []) ≡ placed place groups ++ record { at = place + length (groups_bytes groups); group = group } ∷ []
unfolding groups_bytes
placed-push place [] group = ap (λ (k : ℕ). record { at = k; group = group } ∷ []) (let e : place ≡ place + 0 = omega arith in e)
placed-push place (g ∷ groups) group =
    let size : length (group_bytes g ++ flat_map group_bytes groups) ≡ length (group_bytes g) + length (flat_map group_bytes groups) = length-append (group_bytes g) (flat_map group_bytes groups) in
    let at : place + length (group_bytes g) + length (flat_map group_bytes groups) ≡ place + length (group_bytes g ++ flat_map group_bytes groups) = omega (arith, size) in
    ap (λ (l : List Logged). record { at = place; group = g } ∷ l) (placed-push (place + length (group_bytes g)) groups group)
    ∙ ap (λ (k : ℕ). record { at = place; group = g } ∷ (placed (place + length (group_bytes g)) groups ++ record { at = k; group = group } ∷ [])) at

pub bytes-push : (groups : List (List Record)) (group : List Record) → groups_bytes (groups ++ group ∷ []) ≡ groups_bytes groups ++ group_bytes group
unfolding groups_bytes
bytes-push groups group = flat_map-append group_bytes groups (group ∷ []) ∙ ap (λ (l : List ℕ). flat_map group_bytes groups ++ l) (append-nil (group_bytes group))

-- a front of lists one behind the other
take_over : {A : Type 0} (xs ys : List A) (n : ℕ) → take (length xs + n) (xs ++ ys) ≡ xs ++ take n ys
take_over {A} [] ys n = ap (λ (k : ℕ). take k ys) (let e : 0 + n ≡ n = omega arith in e)
take_over {A} (x ∷ xs) ys n = ap (λ (k : ℕ). take k (x ∷ (xs ++ ys))) (let e : suc (length xs) + n ≡ suc (length xs + n) = omega arith in e) ∙ ap (λ (l : List A). x ∷ l) (take_over xs ys n)

-- ---- the files

-- the piece that comes next is that of its page
pub next_some : (pieces : Pieces) (n : ℕ) (may : Bool) (p : Piece) → next_piece pieces n may ≡ Some p → pieces n ≡ Some p
unfolding next_piece
next_some pieces n may p is = by_piece (pieces n) refl
  where
    chosen : (b : Bool) (q : Piece) → cond b (Some q) None ≡ Some p → q ≡ p
    chosen true q e = same_Some q p e
    chosen false q e = absurd (cc)

    by_piece : (o : Option Piece) → pieces n ≡ o → pieces n ≡ Some p
    by_piece None e = absurd (let f : None ≡ Some p = sym (ap (option_and_then (λ (x : Piece). cond (x.0 || may) (Some x) None)) e) ∙ is in (cc))
    by_piece (Some q) e =
        e ∙ ap Some (chosen (q.0 || may) q (sym (ap (option_and_then (λ (x : Piece). cond (x.0 || may) (Some x) None)) e) ∙ is))

-- the base of a front is in the log
pub base_in : (pieces : Pieces) (base : ℕ) (whole : List Piece) → IsBaseOf base whole → Stand pieces (base / 8176) true whole → IsBase pieces base
base_in pieces base [] based stand = inl based
base_in pieces base (p ∷ ps) based stand = inr (record { piece = p; valid = next_some pieces (base / 8176) true p stand.0; used = based })

-- with no front the base is a page's first byte
pub base_even : (base : ℕ) (whole : List Piece) → IsBaseOf base whole → length whole ≡ 0 → base % 8176 ≡ 0
base_even base [] based none = based
base_even base (p ∷ ps) based none = absurd (omega (arith, none))

-- files that stand up to a page aren't damaged
files_sound : (files : LogFiles) (base n end : ℕ) → base / 8176 ≤ n → FilesStand files (file_of base) n → IsBase (pieces_of files) base → ((m : ℕ) (p : Piece) → end ≤ m → pieces_of files m ≡ Some p → p.0 ≡ false) → IsSoundLog files base end
files_sound files base n end upto stands based quiet = record {
  here = elim (below_or_same (base / 8176 / 1024) (n / 1024) (omega (arith, upto))) [
    | inl below ↦ inl (stands.stand (base / 8176 / 1024) (omega arith) below)
    | inr same ↦ elim stands.here [
      | inl some ↦ inl (subst (λ (f : ℕ). IsSome (files f)) (sym same) some)
      | inr first ↦ inr (omega (arith, same, first, upto))
    ]
  ];
  stand = λ f g from above low some. elim (cases_lt (n / 1024) g) [
    | inl behind' ↦ absurd (none_isnt (files g) (stands.none g behind' low) some)
    | inr before ↦ stands.stand f from (omega (arith, above, before))
  ];
  few = λ f from low. elim (cases_lt (n / 1024) f) [
    | inl behind' ↦ omega (arith, ap (λ (o : Option (List (List ℕ))). option_map_or length o 0) (stands.none f behind' low))
    | inr before ↦ stands.few f from before
  ];
  based = based;
  quiet = quiet;
}

-- What a run behind a whole front holds, whatever was lost of it: the groups of the front, and a front of those that the
-- run's bytes begin.
pub record HoldsSome (files : LogFiles) (base : ℕ) (whole : List Piece) (text : List ℕ) (groups : List (List Record)) : Type 0 where
  pub count : ℕ
  pub within : count ≤ length groups
  pub enough : length (groups_bytes (take count groups)) ≤ length text
  pub end : ℕ
  pub holds : HoldsLog files base (groups_from base whole ++ placed (8176 * (base / 8176 + length whole)) (take count groups)) end
  pub sound : IsSoundLog files base end

-- the bytes of a front of pages
joined_front : (k : ℕ) (parts : List (List ℕ)) → joined (take k parts) ++ joined (drop k parts) ≡ joined parts
joined_front k parts = sym (flat_map-append (λ (b : List ℕ). b) (take k parts) (drop k parts)) ∙ ap joined (take-append-drop k parts)

pub run_holds : (files : LogFiles) (base : ℕ) (whole : List Piece) (parts : List (List ℕ)) (ahead : List ℕ) (groups : List (List Record)) → HoldsRun base whole parts files → AreFull parts → IsBaseOf base whole → All IsGroup groups
    → joined parts ++ ahead ≡ groups_bytes groups → HoldsSome files base whole (joined parts) groups
run_holds files base whole parts ahead groups run full based are is =
    let first : ℕ = base / 8176 + length whole in
    let left : Left (pieces_of files) first true (may_behind true whole) parts = part_left (pieces_of files) first true (may_behind true whole) parts run.part full (λ some. refl) run.none in
    let kept : List (List ℕ) = take left.count parts in
    let bytes : List ℕ = joined kept in
    let split : bytes ++ (joined (drop left.count parts) ++ ahead) ≡ groups_bytes groups =
    sym (append_assoc bytes (joined (drop left.count parts)) ahead) ∙ ap (λ (l : List ℕ). l ++ ahead) (joined_front left.count parts) ∙ is in
    let found : HoldsFront (8176 * first) groups bytes (groups_at (8176 * first) bytes) = front_holds groups (8176 * first) bytes (joined (drop left.count parts) ++ ahead) are split in
    let pieces : List Piece = whole ++ pieces_of_run true kept in
    let size : length pieces ≡ length whole + length (pieces_of_run true kept) = length-append whole (pieces_of_run true kept) in
    let few : length (pieces_of_run true kept) ≡ left.count = length-pieces_of_run true kept ∙ length-take left.count parts ∙ omega (arith, left.within) in
    record {
      count = found.count;
      within = found.within;
      enough = omega (arith, found.enough, ap length (joined_front left.count parts), length-append bytes (joined (drop left.count parts)));
      end = base / 8176 + length pieces;
      holds = record {
        pieces = pieces;
        front = record {
          stand = stand-append (pieces_of files) (base / 8176) first true whole (pieces_of_run true kept) run.stand refl left.front.stand;
          end = ap (next_piece (pieces_of files) (base / 8176 + length pieces)) (may_behind-append true whole (pieces_of_run true kept))
              ∙ ap (λ (k : ℕ). next_piece (pieces_of files) k (may_behind (may_behind true whole) (pieces_of_run true kept))) (let e : base / 8176 + length pieces ≡ first + length (pieces_of_run true kept) = omega (arith, size) in e)
              ∙ left.front.end;
        };
        groups_are = ap (λ (l : List Logged). groups_from base whole ++ l) (sym found.found_is) ∙ sym (groups-append base first whole kept refl (base_even base whole based));
        end_is = refl;
      };
      sound = files_sound files base (behind base whole parts) (base / 8176 + length pieces) (omega arith) run.files (base_in (pieces_of files) base whole based run.stand)
          (λ m p from valid. left.quiet m p (omega (arith, from, size, few)) valid);
    }

-- An image while bytes of the groups are written holds a front of them.
pub image_from : (files : LogFiles) (base : ℕ) (whole : List Piece) (fresh : List (List Record)) (groups : List Logged) (forced : ℕ) → IsBaseOf base whole → All IsGroup fresh → forced ≡ length (groups_from base whole)
    → groups ≡ groups_from base whole ++ placed (8176 * (base / 8176 + length whole)) fresh → IsImage base whole (groups_bytes fresh) files → HoldsFrom base groups forced files
image_from files base whole fresh groups forced based are forced_are groups_are image =
    let some = run_holds files base whole image.parts image.ahead fresh image.holds image.full based are image.text_is in
    let place : ℕ = 8176 * (base / 8176 + length whole) in
    record {
      count = length (groups_from base whole) + some.count;
      from = omega (arith, forced_are);
      within = omega (arith, ap length groups_are, length-append (groups_from base whole) (placed place fresh), length-placed place fresh, some.within);
      end = some.end;
      holds = subst (λ (l : List Logged). HoldsLog files base l some.end)
          (sym (ap (take (length (groups_from base whole) + some.count)) groups_are ∙ take_over (groups_from base whole) (placed place fresh) some.count
          ∙ ap (λ (l : List Logged). groups_from base whole ++ l) (take-placed some.count place fresh))) some.holds;
      sound = some.sound;
    }

-- An image while a group is appended holds a front of the groups before it.
pub strict_from : (files : LogFiles) (base : ℕ) (whole : List Piece) (fresh : List (List Record)) (group : List Record) (groups : List Logged) (forced : ℕ) → IsBaseOf base whole → All IsGroup fresh → IsGroup group
    → forced ≡ length (groups_from base whole) → groups ≡ groups_from base whole ++ placed (8176 * (base / 8176 + length whole)) fresh → IsStrict base whole (groups_bytes fresh ++ group_bytes group) files → HoldsFrom base groups forced files
strict_from files base whole fresh group groups forced based are is forced_are groups_are strict =
    let image = strict.image in
    let all : List (List Record) = fresh ++ group ∷ [] in
    let text : joined image.parts ++ (image.ahead ++ strict.ahead) ≡ groups_bytes all =
    sym (append_assoc (joined image.parts) image.ahead strict.ahead) ∙ ap (λ (l : List ℕ). l ++ strict.ahead) image.text_is ∙ strict.text_is ∙ sym (bytes-push fresh group) in
    let some = run_holds files base whole image.parts (image.ahead ++ strict.ahead) all image.holds image.full based (All-push IsGroup fresh group are is) text in
    let place : ℕ = 8176 * (base / 8176 + length whole) in
    let old : some.count ≤ length fresh = elim (cases_lt (length fresh) some.count) [
      | inr few ↦ few
      | inl over ↦
          let whole_text : length (groups_bytes (take some.count all)) ≡ length (groups_bytes all) = ap (λ (l : List (List Record)). length (groups_bytes l)) (take_all some.count all (omega (arith, over, length_push fresh group))) in
          absurd (omega (arith, some.enough, whole_text, ap length text, length-append (joined image.parts) (image.ahead ++ strict.ahead), length-append image.ahead strict.ahead, strict.some))
    ] in
    record {
      count = length (groups_from base whole) + some.count;
      from = omega (arith, forced_are);
      within = omega (arith, ap length groups_are, length-append (groups_from base whole) (placed place fresh), length-placed place fresh, old);
      end = some.end;
      holds = subst (λ (l : List Logged). HoldsLog files base l some.end)
          (ap (λ (l : List (List Record)). groups_from base whole ++ placed place l) (take-append-le some.count fresh (group ∷ []) old)
          ∙ sym (ap (take (length (groups_from base whole) + some.count)) groups_are ∙ take_over (groups_from base whole) (placed place fresh) some.count
          ∙ ap (λ (l : List Logged). groups_from base whole ++ l) (take-placed some.count place fresh))) some.holds;
      sound = some.sound;
    }
