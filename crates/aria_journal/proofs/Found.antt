-- What the opening of a log finds.
use Rattle.std.proofs.Common.{◌≡◌, ℕ, Bool, true, false, cond, None, Some, List, [], drop, sym, ◌∙◌, ap}
use Rattle.aria_host.specs.Folder.{Folder}
use Rattle.aria_journal.specs.declared.log.Log.{Log as LogValue}
use Rattle.aria_journal.specs.Front.{end_of, begins_behind, damaged_at}
use Rattle.aria_journal.specs.Log.{log_pages, Fills, IsOpened}

-- whether the log is damaged, by whether a run begins behind its end
damaged_by : (pages : List (List ℕ)) (number : ℕ) (found : Bool) → number ≡ end_of pages → found ≡ begins_behind number (drop number pages) → damaged_at pages ≡ cond found (Some number) None
unfolding damaged_at
damaged_by pages number found at is =
    ap (λ (k : ℕ). cond (begins_behind k (drop k pages)) (Some k) None) (sym at) ∙ ap (λ (b : Bool). cond b (Some number) None) (sym is)

-- no run begins behind the log's end
pub found_sound : (log : LogValue) (folder : Folder) (number : ℕ) (found : Bool) → number ≡ end_of (log_pages folder) → found ≡ begins_behind number (drop number (log_pages folder)) → found ≡ false → Fills log number true [] → IsOpened log folder
found_sound log folder number found at is none fills = record {
  sound = damaged_by (log_pages folder) number found at is ∙ ap (λ (b : Bool). cond b (Some number) None) none;
  fills = record { number_is = fills.number_is ∙ at; begins_is = fills.begins_is; used_is = fills.used_is; body_is = fills.body_is };
}

-- a run begins behind the log's end
pub found_damaged : (folder : Folder) (number : ℕ) (found : Bool) → number ≡ end_of (log_pages folder) → found ≡ begins_behind number (drop number (log_pages folder)) → found ≡ true → damaged_at (log_pages folder) ≡ Some number
found_damaged folder number found at is some = damaged_by (log_pages folder) number found at is ∙ ap (λ (b : Bool). cond b (Some number) None) some
