-- Whole bodies of new pages.
use Rattle.std.proofs.Common.{◌≡◌, ℕ, ◌-◌, ◌≤◌, ◌<◌, ◌^◌, List, [], ◌∷◌, ◌++◌, length, take, replicate, refl, sym, ap, ◌∙◌, append_assoc, arith}
use Rattle.std.proofs.lemmas.List.{append-nil, length-append, length-replicate, take_all}
use Rattle.aria_page.specs.Number.{number}
use Rattle.aria_page.proofs.Numbers.{length-number, number-one}
use Rattle.aria_keypage.specs.declared.kind.Kind.TheVariants.{Leaf, Node}
use Rattle.aria_keypage.specs.Item.{Item, IsItem}
use Rattle.aria_keypage.specs.Packed.{packed_item, packed}
use Rattle.aria_keypage.specs.Content.{Content, kind_byte, item_bytes, front, IsContent}
use Rattle.aria_keypage.specs.Change.{IsBody, leaf_of_one, node_of_one}
use Rattle.aria_keypage.proofs.Read.{kind-lt}
use Rattle.aria_keypage.proofs.Spliced.{item-bytes-le}

-- a body written field by field, with anything behind
pub whole-spells : (c : Content) (k key : ℕ) (a b d e body count bytes behind : List ℕ) → IsContent c → k ≡ kind_byte c.kind → key ≡ c.key → bytes ≡ item_bytes c → count ≡ number 2 (length bytes)
    → a ≡ k ∷ [] → b ≡ a ++ key ∷ [] → d ≡ b ++ count → e ≡ d ++ bytes → body ≡ e ++ behind → length body ≡ 8181 → IsBody body c
unfolding front
whole-spells c k key a b d e body count bytes behind is ek ey eb ec ea eb2 ed ee eo len =
    let parts : body ≡ (((number 1 (kind_byte c.kind) ++ number 1 c.key) ++ number 2 (length (item_bytes c))) ++ item_bytes c) ++ behind =
    eo ∙ (λ i. ee i ++ behind) ∙ (λ i. (ed i ++ bytes) ++ behind) ∙ (λ i. ((eb2 i ++ count) ++ bytes) ++ behind) ∙ (λ i. (((ea i ++ key ∷ []) ++ count) ++ bytes) ++ behind)
    ∙ (λ i. (((ek i ∷ []) ++ ey i ∷ []) ++ (ec ∙ ap (λ (l : List ℕ). number 2 (length l)) eb) i ++ eb i) ++ behind)
    ∙ sym (λ i. (((number-one (kind_byte c.kind) (kind-lt c.kind) i ++ number-one c.key is.key i) ++ number 2 (length (item_bytes c))) ++ item_bytes c) ++ behind) in
    record { size = len; spells = record { content = is; behind = behind; parts = parts ∙ simp append_assoc } }

-- bytes filled up with zeros
pub filled : (m v : ℕ) (e body : List ℕ) → v ≡ length e → length e ≤ m → body ≡ take m e ++ replicate (m - v) 0 → (body ≡ e ++ replicate (m - v) 0) × (length body ≡ m)
filled m v e body same fits is =
    let whole : body ≡ e ++ replicate (m - v) 0 = is ∙ ap (λ (l : List ℕ). l ++ replicate (m - v) 0) (take_all m e fits) in
    (whole, omega (arith, ap length whole, length-append e (replicate (m - v) 0), length-replicate {A = ℕ} (m - v) 0))

-- the item bytes of a leaf with one item
pub one-leaf : (key : ℕ) (x : Item) (start bytes : List ℕ) → key < 256 → IsItem 5 x → start ≡ [] → bytes ≡ start ++ packed_item 5 [] x → IsContent (leaf_of_one key x) × (item_bytes (leaf_of_one key x) ≡ bytes)
unfolding item_bytes packed
one-leaf key x start bytes low fits e0 eb =
    let same : packed_item 5 [] x ++ [] ≡ packed_item 5 [] x = append-nil (packed_item 5 [] x) in
    let size : length (item_bytes (leaf_of_one key x)) ≤ 8177 = omega (arith, ap length same, item-bytes-le Leaf [] x fits.entry) in
    (record { key = low; first = refl; items = (fits, tt); size = size }, same ∙ sym (eb ∙ ap (λ (l : List ℕ). l ++ packed_item 5 [] x) e0))

-- those of a node with one item
pub one-node : (key first : ℕ) (x : Item) (start mid bytes number_bytes : List ℕ) → key < 256 → first < 256 ^ 4 → IsItem 4 x → start ≡ [] → number_bytes ≡ number 4 first → mid ≡ start ++ number_bytes → bytes ≡ mid ++ packed_item 4 [] x
    → IsContent (node_of_one key first x) × (item_bytes (node_of_one key first x) ≡ bytes)
unfolding item_bytes packed
one-node key first x start mid bytes number_bytes low fits_first fits e0 en em eb =
    let same : number 4 first ++ (packed_item 4 [] x ++ []) ≡ number 4 first ++ packed_item 4 [] x = ap (λ (l : List ℕ). number 4 first ++ l) (append-nil (packed_item 4 [] x)) in
    let size : length (item_bytes (node_of_one key first x)) ≤ 8177 = omega (arith, ap length same, length-append (number 4 first) (packed_item 4 [] x), length-number 4 first, item-bytes-le Node [] x fits.entry) in
    (record { key = low; first = fits_first; items = (fits, tt); size = size }, same ∙ sym (eb ∙ ap (λ (l : List ℕ). l ++ packed_item 4 [] x) (em ∙ (λ i. e0 i ++ en i))))
