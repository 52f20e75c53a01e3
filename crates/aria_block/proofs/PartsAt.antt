-- Where the parts of a page lie.
use Rattle.std.proofs.Common.{◌≡◌, ℕ, ◌+◌, ◌*◌, ◌<◌, ◌≤◌, Option, Some, None, List, ◌∷◌, ◌++◌, length, take, drop, refl, sym, ap, ◌∙◌, arith, subst, length-append}
use Rattle.std.specs.Prelude.{slice_index}
use Rattle.std.proofs.lemmas.Option.{same_Some}
use Rattle.aria_bitmap.specs.Code.{entry}
use Rattle.aria_block.specs.declared.part_kind.PartKind.{PartKind}
use Rattle.aria_block.specs.PartPage.{window, Items, text, part_in, part_byte, IsPartPage}
use Rattle.aria_block.specs.Reading.{IsPartAt}
use Rattle.std.proofs.lemmas.List.{drop-drop, take-take, drop-take, drop_at, take_at}
use Rattle.aria_block.proofs.Windows.{length-window}
use Rattle.aria_block.proofs.Placed.{head_says}
use Rattle.aria_block.proofs.Spots.{part_byte-fits}
use Rattle.aria_block.proofs.Items.{entry_none, text-append}
use Rattle.aria_block.proofs.Taken.{stands}

-- the bytes of a part among others
among : (front bytes back body : List ℕ) → window 4 (length (front ++ (bytes ++ back))) body ≡ front ++ (bytes ++ back) → window (4 + length front) (length bytes) body ≡ bytes
unfolding window
among front bytes back body is =
    let n : ℕ = length front in
    let m : ℕ = length bytes in
    let k : ℕ = length back in
    let whole : take (n + (m + k)) (drop 4 body) ≡ front ++ (bytes ++ back) = ap (λ (l : ℕ). take l (drop 4 body)) (sym sizes) ∙ is in
    ap (take m) (sym (drop-drop n 4 body)) ∙ sym (take-take m (m + k) (drop n (drop 4 body)) (omega arith)) ∙ ap (take m) (sym (drop-take n (m + k) (drop 4 body)))
    ∙ ap (λ (l : List ℕ). take m (drop n l)) whole ∙ ap (take m) (drop_at front (bytes ++ back) n refl) ∙ take_at bytes back m refl
  where
    sizes : length (front ++ (bytes ++ back)) ≡ length front + (length bytes + length back)
    sizes = omega (arith, length-append front (bytes ++ back), length-append bytes back)

pub lies_there : (kind : PartKind) (nth at len : ℕ) (body : List ℕ) → entry body nth ≡ 65536 * at + len → len < 65536 → 4 ≤ at → nth < slice_index body 1 → (c : ℕ) (items : Items) → IsPartPage (part_byte kind) c items body → part_in items nth ≡ Some (window at len body)
lies_there kind nth at len body is fits low inside c items page = of (part_in items nth) refl
  where
    of : (o : Option (List ℕ)) → part_in items nth ≡ o → o ≡ Some (window at len body)
    of None e =
        let says = head_says (part_byte kind) c (4 + length (text items)) body (part_byte-fits kind) (omega (arith, page.has.few)) (omega (arith, page.has.room)) page.head in
        let none : entry body nth ≡ 0 = page.has.entries nth (omega (arith, inside, says.count)) ∙ entry_none items nth 4 e in
        absurd (omega (arith, none, is, low))
    of (Some bytes) e =
        let s = stands kind c items nth bytes body page e in
        let front : List ℕ = text s.among.front in
        let back : List ℕ = text s.among.back in
        let room = s.room in
        let at_is : at ≡ 4 + length front = omega (arith, is, s.here, fits, room) in
        let len_is : len ≡ length bytes = omega (arith, is, s.here, fits, room) in
        let texts : text items ≡ front ++ (bytes ++ back) = ap text s.among.is ∙ text-append s.among.front ((nth, bytes) ∷ s.among.back) in
        let here : window (4 + length front) (length bytes) body ≡ bytes = among front bytes back body (subst (λ (t : List ℕ). window 4 (length t) body ≡ t) texts page.has.parts) in
        ap Some (sym here ∙ (λ i. window (sym at_is i) (sym len_is i) body))

-- a part has the length that its entry says
pub part_long : (kind : PartKind) (nth at len : ℕ) (body bytes : List ℕ) (c : ℕ) (items : Items) → IsPartAt kind nth body at len → IsPartPage (part_byte kind) c items body → part_in items nth ≡ Some bytes → length bytes ≡ len
part_long kind nth at len body bytes c items part page there =
    let same : bytes ≡ window at len body = same_Some bytes (window at len body) (sym there ∙ part.is c items page) in
    let long = page.has.long in
    let within = part.within in
    ap length same ∙ length-window at len body (omega (arith, within, long))
