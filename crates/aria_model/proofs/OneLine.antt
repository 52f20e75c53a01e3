-- What is spelled on one line: no LF before its end.
use Rattle.std.proofs.Common.{◌≡◌, ℕ, zero, suc, ◌+◌, ◌/◌, ◌%◌, ◌<◌, Bool, true, false, ◌&&◌, ◌==◌, nat_lt, if◌then◌else◌, List, [], ◌∷◌, ◌++◌, codes, refl, sym, ap, ◌∙◌, arith, ne_eqb}
use Rattle.std.specs.Prelude.{ℤ, pos, negsuc, IsTrue}
use Rattle.std.specs.List.{list_all, flat_map, join_by}
use Rattle.std.specs.Fmt.{digit_glyph, digits_onto, digits, decimal, signed_decimal}
use Rattle.std.proofs.lemmas.Bool.{and_parts}
use Rattle.std.proofs.lemmas.List.Folds.{list_any-append}
use Rattle.aria_page.specs.Word.{begins_as_word, continues_word, is_word}
use Rattle.aria_value.specs.declared.value.Value.{Value}
use Rattle.aria_value.specs.declared.value.Value.TheVariants.{Null, Int, Text}
use Rattle.aria_model.specs.declared.refusal.Which.{Which}
use Rattle.aria_model.specs.declared.refusal.Which.TheVariants.{Packed, MaxRows, Columns, Kind, Keys, Spatial, Fulltext, Entry}
use Rattle.aria_model.specs.declared.refusal.Refusal.{Refusal}
use Rattle.aria_model.specs.declared.reply.Reply.TheVariants.{Done, Count, No}
use Rattle.aria_model.specs.Text.{is_printed, quoted, hex_digit, hex, value_text, row_text, which_text, refusal_text, reply_text, HasNoLineEnd, IsOneLine}

-- a byte past LF
above : (b : ℕ) → 10 < b → (b == 10) ≡ false
above b h = ne_eqb b 10 (λ is. omega arith)

-- a byte that passes a test that LF doesn't pass
passing : (p : ℕ → Bool) (b : ℕ) → p 10 ≡ false → p b ≡ true → (b == 10) ≡ false
passing p b fails passes = ne_eqb b 10 (λ is. let other : true ≡ false = sym passes ∙ ap p is ∙ fails in cc)

-- Bytes that pass a test that LF doesn't pass have no LF.
pub passing-all : (p : ℕ → Bool) (bytes : List ℕ) → p 10 ≡ false → list_all p bytes ≡ true → HasNoLineEnd bytes
passing-all p [] fails passes = refl
passing-all p (b ∷ bs) fails passes =
    let parts : (p b ≡ true) × (list_all p bs ≡ true) = and_parts (p b) (list_all p bs) passes in
    rw (passing p b fails parts.0) (passing-all p bs fails parts.1)

-- Two parts without LF have none together.
pub no_end-append : (xs ys : List ℕ) → HasNoLineEnd xs → HasNoLineEnd ys → HasNoLineEnd (xs ++ ys)
no_end-append xs ys x y = rw (list_any-append (λ b. b == 10) xs ys, x) y

-- Nor have the parts that each item gives.
pub no_end-flat_map : {A : Type 0} (f : A → List ℕ) → ((x : A) → HasNoLineEnd (f x)) → (xs : List A) → HasNoLineEnd (flat_map f xs)
no_end-flat_map f each [] = refl
no_end-flat_map f each (x ∷ xs) = no_end-append (f x) (flat_map f xs) (each x) (no_end-flat_map f each xs)

-- A name has none.
pub no_end-word : (name : List ℕ) → IsTrue (is_word name) → HasNoLineEnd name
no_end-word name word =
    let front : (begins_as_word name && list_all continues_word name) ≡ true = (and_parts _ _ word).0 in
    passing-all continues_word name refl (and_parts (begins_as_word name) (list_all continues_word name) front).1

-- ---- numbers

-- a digit below 10 or not, in lower case
glyph_by : (small : Bool) (d : ℕ) → ((if small then 48 + d else 87 + d) == 10) ≡ false
glyph_by true d = above (48 + d) (omega arith)
glyph_by false d = above (87 + d) (omega arith)

glyph : (d : ℕ) → (digit_glyph false d == 10) ≡ false
glyph d = glyph_by (nat_lt d 10) d

no_end-cons : (b : ℕ) (bs : List ℕ) → (b == 10) ≡ false → HasNoLineEnd bs → HasNoLineEnd (b ∷ bs)
no_end-cons b bs here rest = rw here rest

-- the last digits and the rest, where they are all or not
digits_by : (all : Bool) (last rest : List ℕ) → HasNoLineEnd last → HasNoLineEnd rest → HasNoLineEnd (if all then last else rest)
digits_by true last rest l r = l
digits_by false last rest l r = r

no_end-digits_onto : (k base n : ℕ) (acc : List ℕ) → HasNoLineEnd acc → HasNoLineEnd (digits_onto k base false n acc)
no_end-digits_onto zero base n acc h = h
no_end-digits_onto (suc k) base n acc h =
    let more : HasNoLineEnd (digit_glyph false (n % base) ∷ acc) = no_end-cons (digit_glyph false (n % base)) acc (glyph (n % base)) h in
    digits_by (n / base == 0) (digit_glyph false (n % base) ∷ acc) (digits_onto k base false (n / base) (digit_glyph false (n % base) ∷ acc))
    more (no_end-digits_onto k base (n / base) (digit_glyph false (n % base) ∷ acc) more)

-- A number in decimal has none.
pub no_end-decimal : (n : ℕ) → HasNoLineEnd (decimal n)
unfolding digits
no_end-decimal n = no_end-digits_onto 64 10 n [] refl

no_end-signed : (z : ℤ) → HasNoLineEnd (signed_decimal z)
no_end-signed (pos n) = no_end-decimal n
no_end-signed (negsuc n) = no_end-cons 45 (decimal (suc n)) refl (no_end-decimal (suc n))

-- ---- rows

quoted_by : (quote : Bool) (b : ℕ) → (b == 10) ≡ false → HasNoLineEnd (if quote then 39 ∷ 39 ∷ [] else b ∷ [])
quoted_by true b h = refl
quoted_by false b h = no_end-cons b [] h refl

no_end-quoted : (bytes : List ℕ) → list_all is_printed bytes ≡ true → HasNoLineEnd (flat_map quoted bytes)
no_end-quoted [] printed = refl
no_end-quoted (b ∷ bs) printed =
    let parts : (is_printed b ≡ true) × (list_all is_printed bs ≡ true) = and_parts (is_printed b) (list_all is_printed bs) printed in
    no_end-append (quoted b) (flat_map quoted bs) (quoted_by (b == 39) b (passing is_printed b refl parts.0)) (no_end-quoted bs parts.1)

no_end-hex : (b : ℕ) → HasNoLineEnd (hex b)
no_end-hex b = no_end-cons (hex_digit (b / 16)) (hex_digit (b % 16) ∷ []) (glyph_by (nat_lt (b / 16) 10) (b / 16))
    (no_end-cons (hex_digit (b % 16)) [] (glyph_by (nat_lt (b % 16) 10) (b % 16)) refl)

-- a text whose bytes are all printed or not
text_by : (printed : Bool) (bytes : List ℕ) → list_all is_printed bytes ≡ printed
    → HasNoLineEnd (if printed then 39 ∷ flat_map quoted bytes ++ 39 ∷ [] else 120 ∷ 39 ∷ flat_map hex bytes ++ 39 ∷ [])
text_by true bytes is = no_end-append (flat_map quoted bytes) (39 ∷ []) (no_end-quoted bytes is) refl
text_by false bytes is = no_end-append (flat_map hex bytes) (39 ∷ []) (no_end-flat_map hex no_end-hex bytes) refl

-- A value has none, whatever its bytes.
pub no_end-value : (value : Value) → HasNoLineEnd (value_text value)
no_end-value Null = refl
no_end-value (Int n) = no_end-signed n
no_end-value (Text bytes) = text_by (list_all is_printed bytes) bytes refl

no_end-values : (values : List Value) → HasNoLineEnd (join_by value_text (codes ",") values)
no_end-values [] = refl
no_end-values (v ∷ vs) = no_end-append (value_text v) (flat_map (λ value. codes "," ++ value_text value) vs) (no_end-value v)
    (no_end-flat_map (λ value. codes "," ++ value_text value) (λ value. no_end-append (codes ",") (value_text value) refl (no_end-value value)) vs)

-- Nor has a row before its end.
pub no_end-row : (row : List Value) → HasNoLineEnd (codes "row " ++ join_by value_text (codes ",") row)
no_end-row row = no_end-append (codes "row ") (join_by value_text (codes ",") row) refl (no_end-values row)

-- A row is spelled on one line.
pub row_on_line : (row : List Value) → IsOneLine (row_text row)
row_on_line row = (codes "row " ++ join_by value_text (codes ",") row, refl, no_end-row row)

-- ---- replies

-- A word for what is wrong in a definition has none.
pub no_end-which : (which : Which) → HasNoLineEnd (which_text which)
no_end-which Packed = refl
no_end-which MaxRows = refl
no_end-which Columns = refl
no_end-which Kind = refl
no_end-which Keys = refl
no_end-which Spatial = refl
no_end-which Fulltext = refl
no_end-which Entry = refl

-- So is that a statement is done.
pub done_on_line : IsOneLine (reply_text Done)
done_on_line = (codes "ok", refl, refl)

-- So is a count of rows.
pub count_on_line : (n : ℕ) → IsOneLine (reply_text (Count n))
count_on_line n = (codes "ok " ++ decimal n, refl, no_end-append (codes "ok ") (decimal n) refl (no_end-decimal n))

-- So is a refusal whose names have no LF.
pub no_on_line : (why : Refusal) → HasNoLineEnd (refusal_text why) → IsOneLine (reply_text (No why))
no_on_line why none = (codes "no " ++ refusal_text why, refl, no_end-append (codes "no ") (refusal_text why) refl none)
