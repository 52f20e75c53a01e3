-- Which texts name no file.
use Rattle.std.proofs.Common.{◌≡◌, ◌≢◌, ◌==◌, ℕ, ◌<◌, ◌^◌, false, IsTrue, List, ◌++◌, length, take, drop, codes, refl, sym, ◌∙◌, ap, subst, arith, length-append}
use Rattle.std.specs.Cmp.Lexicographic.{pointwise, bytes_decides}
use Rattle.std.proofs.Math.Seq.{take-append_seam}
use Rattle.std.proofs.lemmas.List.{append_cancel_left, take-append-drop}
use Rattle.aria_page.specs.Word.{is_word}
use Rattle.aria_host.specs.declared.file_name.FileName.{FileName}
use Rattle.aria_host.specs.declared.file_name.FileName.TheVariants.{Control, Log, Keys, Rows, NewKeys, NewRows}
use Rattle.aria_host.specs.FileText.{file_text, log_text}
use Rattle.aria_host.specs.Form.{has_word, is_table, NamesNone, NamesNoTable}

-- texts with ends of one length are the same in both parts
pub same_parts : (a b x y : List ℕ) → length x ≡ length y → a ++ x ≡ b ++ y → (a ≡ b) × (x ≡ y)
same_parts a b x y long is =
    let count : length a ≡ length b = omega (arith, ap length is, length-append a x, length-append b y, long) in
    let front : a ≡ b = sym (take-append_seam a x) ∙ ap (λ (n : ℕ). take n (a ++ x)) count ∙ ap (take (length b)) is ∙ take-append_seam b y in
    (front, append_cancel_left b x y (ap (λ (l : List ℕ). l ++ x) (sym front) ∙ is))

-- a table's file ends in four bytes, behind a word
parted : (file : FileName) → IsTrue (is_table file) → IsTrue (has_word file)
    → (name : List ℕ) × (back : List ℕ) × (file_text file ≡ name ++ back) × (length back ≡ 4) × IsTrue (is_word name)
parted (Keys name) table word = (name, codes ".MAI", refl, refl, word)
parted (Rows name) table word = (name, codes ".MAD", refl, refl, word)
parted (NewKeys name) table word = (name, codes ".TMI", refl, refl, word)
parted (NewRows name) table word = (name, codes ".TMD", refl, refl, word)
parted Control table word = absurd (cc)
parted (Log n) table word = absurd (cc)

-- a comparison that fails
pub other : (a b : List ℕ) → false ≡ pointwise ◌==◌ a b → a ≢ b
other a b fails same = absurd (cc (fails ∙ (bytes_decides a b).1 same))

-- none of the four ends
pub no_end : (name back : List ℕ) → length back ≡ 4 → back ≢ codes ".MAI" → back ≢ codes ".MAD" → back ≢ codes ".TMI" → back ≢ codes ".TMD"
    → (file : FileName) → IsTrue (is_table file) → file_text file ≢ name ++ back
no_end name back four a b c d (Keys n) table is = a (sym (same_parts n name (codes ".MAI") back (sym four) is).1)
no_end name back four a b c d (Rows n) table is = b (sym (same_parts n name (codes ".MAD") back (sym four) is).1)
no_end name back four a b c d (NewKeys n) table is = c (sym (same_parts n name (codes ".TMI") back (sym four) is).1)
no_end name back four a b c d (NewRows n) table is = d (sym (same_parts n name (codes ".TMD") back (sym four) is).1)
no_end name back four a b c d Control table is = absurd (cc)
no_end name back four a b c d (Log n) table is = absurd (cc)

-- no room for an end
pub too_short : (text : List ℕ) → length text < 4 → NamesNoTable text
too_short text short file table word is =
    let (name, back, parts, four, named) = parted file table word in
    omega (arith, short, four, ap length (sym is ∙ parts), length-append name back)

-- no word in front of the end
pub no_word : (text front back : List ℕ) → front ++ back ≡ text → length back ≡ 4 → ¬ (IsTrue (is_word front)) → NamesNoTable text
no_word text front back whole four none file table word is =
    let (name, end, parts, long, named) = parted file table word in
    none (subst (λ (l : List ℕ). IsTrue (is_word l)) (same_parts name front end back (long ∙ sym four) (sym parts ∙ is ∙ sym whole)).0 named)

-- the two parts of a text are the text
pub whole : (n : ℕ) (text front back : List ℕ) → front ≡ take n text → back ≡ drop n text → front ++ back ≡ text
whole n text front back first second =
    ap (λ (l : List ℕ). l ++ back) first ∙ ap (λ (l : List ℕ). take n text ++ l) second ∙ take-append-drop n text

-- neither the control file, nor one of the log, nor a table's
pub no_file : (text : List ℕ) → text ≢ codes "aria_log_control" → ((number : ℕ) → number < 2 ^ 24 → log_text number ≢ text) → NamesNoTable text → NamesNone text
no_file text control log table Control named = control (sym named.spelled)
no_file text control log table (Log number) named = log number named.form named.spelled
no_file text control log table (Keys name) named = table (Keys name) refl named.word named.spelled
no_file text control log table (Rows name) named = table (Rows name) refl named.word named.spelled
no_file text control log table (NewKeys name) named = table (NewKeys name) refl named.word named.spelled
no_file text control log table (NewRows name) named = table (NewRows name) refl named.word named.spelled
