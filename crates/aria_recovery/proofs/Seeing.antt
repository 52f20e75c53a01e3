-- What redo sees of a page.
use Rattle.std.proofs.Common.{◌≡◌, ◌==◌, ◌∙◌, ◌||◌, ℕ, Bool, true, false, cond, List, drop, ap, refl, Option, None, Some, inl, inr}
use Rattle.std.specs.Option.{option_map_or}
use Rattle.std.specs.Cmp.Lexicographic.{pointwise, bytes_decides}
use Rattle.std.proofs.lemmas.Bool.{eqb-true, eq-eqb}
use Rattle.aria_page.specs.Crc.{checksum}
use Rattle.aria_page.specs.Lsn.{IsLsn, lsn_number, lsn_of}
use Rattle.aria_page.specs.Number.{number_of}
use Rattle.aria_page.specs.Page.{Sums, IsSound, zero_page, page_body, page_lsn, sealed}
use Rattle.aria_page.specs.declared.lsn.Lsn.{Lsn}
use Rattle.aria_page.specs.declared.place.Part.{Part}
use Rattle.aria_page.specs.declared.place.Part.TheVariants.{Keys, Rows}
use Rattle.aria_page.proofs.Pages.{page_lsn-sealed, page_body-sealed}
use Rattle.aria_value.specs.Header.{new_page}
use Rattle.aria_value.specs.Reading.{read_definition}
use Rattle.aria_value.specs.declared.definition.Definition.{Definition}
use Rattle.aria_recovery.specs.Redo.{Seen, is_sound, page_number, seen}
use Rattle.aria_recovery.specs.Tables.{Maker, first_of, made_page}

pub sound_is : (page : List ℕ) → IsSound page → is_sound page ≡ true
unfolding is_sound Sums
sound_is page (inl sums) = ap (λ (b : Bool). b || pointwise ◌==◌ page zero_page) (eq-eqb (number_of 4 page) (checksum (drop 4 page)) sums)
sound_is page (inr zeros) = ap (λ (b : Bool). (number_of 4 page == checksum (drop 4 page)) || b) ((bytes_decides page zero_page).1 zeros) ∙ or_true (number_of 4 page == checksum (drop 4 page))
  where
    or_true : (b : Bool) → (b || true) ≡ true
    or_true true = refl
    or_true false = refl

pub sound_of : (page : List ℕ) → is_sound page ≡ true → IsSound page
unfolding is_sound Sums
sound_of page is = by (number_of 4 page == checksum (drop 4 page)) refl is
  where
    by : (b : Bool) → (number_of 4 page == checksum (drop 4 page)) ≡ b → (b || pointwise ◌==◌ page zero_page) ≡ true → IsSound page
    by true same on = inl (eqb-true (number_of 4 page) (checksum (drop 4 page)) same)
    by false other on = inr ((bytes_decides page zero_page).0 on)

abbrev seen_by : List ℕ → Bool → Seen
seen_by page b = cond b (Some (page_number page, page_body page)) None

pub seen_sound : (page : List ℕ) → IsSound page → seen page ≡ Some (page_number page, page_body page)
seen_sound page is = ap (λ (b : Bool). seen_by page b) (sound_is page is)

pub seen_none : (page : List ℕ) → ¬ IsSound page → seen page ≡ None
seen_none page not = by (is_sound page) refl
  where
    by : (b : Bool) → is_sound page ≡ b → seen_by page b ≡ None
    by true is = absurd (not (sound_of page is))
    by false is = refl

pub number_sealed : (lsn : Lsn) (page : List ℕ) → IsLsn lsn → page_number (sealed lsn page) ≡ lsn_number lsn
unfolding page_number
number_sealed lsn page fits = ap lsn_number (page_lsn-sealed lsn page fits)

-- a page that was sealed
pub seen_sealed : (lsn : Lsn) (page : List ℕ) → IsLsn lsn → Sums (sealed lsn page) → seen (sealed lsn page) ≡ Some (lsn_number lsn, page_body page)
seen_sealed lsn page fits sums = seen_sound (sealed lsn page) (inl sums) ∙ (λ i. Some (number_sealed lsn page fits i, page_body-sealed lsn page i))

-- the page of zeros has the lowest log sequence number
pub number_zero : page_number zero_page ≡ 0
unfolding page_number page_lsn lsn_of number_of zero_page
number_zero = refl

pub seen_zero : seen zero_page ≡ Some (0, page_body zero_page)
seen_zero = seen_sound zero_page (inr refl) ∙ ap (λ (n : ℕ). Some (n, page_body zero_page)) number_zero

-- a first page as it is made bears the log sequence number of its table's making
pub made_number : (maker : Maker) (d : Definition) (part : Part) → read_definition maker.definition ≡ Some d → IsLsn maker.at → page_number (made_page maker part) ≡ lsn_number maker.at
unfolding made_page new_page
made_number maker d part is fits = ap (λ (o : Option Definition). page_number (option_map_or (λ e. first_of maker e part) o zero_page)) is ∙ by part
  where
    by : (p : Part) → page_number (first_of maker d p) ≡ lsn_number maker.at
    by Keys = number_sealed maker.at _ fits
    by Rows = number_sealed maker.at _ fits
