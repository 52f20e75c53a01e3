use Rattle.std.proofs.Common.{◌≡◌, cond, take, List, ℕ, None, Some}
use Rattle.std.specs.BTreeMap.{get}
use Rattle.std.specs.Cmp.Lexicographic.{slice_cmp}
use Rattle.std.specs.Ordering.{nat_cmp}
use Rattle.aria_page.specs.declared.lsn.Lsn.{Lsn}
use Rattle.aria_record.specs.Logged.{Logged}
use Rattle.aria_recovery.specs.Analysed.{Has}
use Rattle.aria_pager.specs.Entered.{is_listed}
use Rattle.aria_pager.proofs.enter.note_files.Given as goal

abbrev pub invariant-loop-found : goal.invariant-loop-found
invariant-loop-found l = (checkpoint : Lsn) (groups : List Logged) → Has checkpoint l.analysis groups → (q : List ℕ) → get (slice_cmp nat_cmp) l.tables q ≡ cond (is_listed (take l.found-index l.files) groups q) (Some None) (get (slice_cmp nat_cmp) l.fn.tables q)
