-- The definitions, by computing: what they say of small logs and folders.
use Rattle.std.proofs.Common.{◌≡◌, ℕ, false, List, [], ◌∷◌, None, Some, refl}
use Rattle.aria_page.specs.Lsn.{lsn_of}
use Rattle.aria_page.specs.Number.{number_of}
use Rattle.aria_page.specs.Page.{page_lsn}
use Rattle.aria_page.specs.declared.lsn.Lsn.{Lsn}
use Rattle.aria_page.specs.declared.edit.Edit.TheVariants.{Set}
use Rattle.aria_page.specs.declared.group.RedoKind.TheVariants as kinds
use Rattle.aria_page.specs.declared.place.Part.TheVariants.{Rows}
use Rattle.aria_host.specs.Folder.{Folder}
use Rattle.aria_host.specs.Folder.{with_file, with_page, put_page}
use Rattle.aria_record.specs.declared.record.Record.TheVariants.{Redo, CreateTable, DropTable, UndoKeyInsert, ClrEnd, Commit}
use Rattle.aria_record.specs.Logged.{Logged, lsn_at_place}
use Rattle.aria_recovery.specs.Redo.{page_number}
use Rattle.aria_recovery.specs.Pending.{pending_of, unchained}
use Rattle.aria_recovery.specs.Tables.{file, tables_of, count_in}

abbrev t : List ℕ
t = 116 ∷ []

abbrev other : List ℕ
other = 117 ∷ []

abbrev page_at : ℕ → List ℕ
page_at n = 0 ∷ 0 ∷ 0 ∷ 0 ∷ 0 ∷ 0 ∷ 0 ∷ 0 ∷ 0 ∷ 0 ∷ n ∷ []

-- a group at place n has the offset 16 + n in the first file of the log
abbrev create : ℕ → Logged
create n = record { at = n; group = CreateTable t false [] 1 ∷ [] }

abbrev drop : ℕ → Logged
drop n = record { at = n; group = DropTable t ∷ [] }

abbrev edit : ℕ → Logged
edit n = record { at = n; group = Redo kinds.Index t Rows 3 (Set 0 (7 ∷ []) ∷ []) ∷ [] }

abbrev nothing : Folder
nothing f = None

-- a data file of two pages, the first of which bears that number
abbrev left_over : ℕ → Folder
left_over n = with_file (file t Rows) (Some (page_at n ∷ page_at n ∷ [])) nothing

abbrev counts : Folder → List Logged → ℕ
counts d gs = count_in (tables_of d gs t) Rows

-- made: one page, and an edit of page 3 behind it makes four
made_one : counts nothing (create 5 ∷ []) ≡ 1
made_one = refl

made_four : counts nothing (create 5 ∷ edit 6 ∷ []) ≡ 4
made_four = refl

-- dropped: none; made again: edits of before count for nothing
dropped : tables_of nothing (create 5 ∷ edit 6 ∷ drop 7 ∷ []) t ≡ None
dropped = refl

made_again : counts nothing (create 5 ∷ edit 6 ∷ drop 7 ∷ create 8 ∷ []) ≡ 1
made_again = refl

-- another name has no table, and a data file alone is none
no_other : tables_of nothing (create 5 ∷ []) other ≡ None
no_other = refl

stray : tables_of (left_over 25) [] t ≡ None
stray = refl

-- a left-over that is older stands for the first page as made; one that isn't is taken as it is: so it must go before the group is there
older : counts (left_over 20) (create 5 ∷ []) ≡ 1
unfolding page_number page_lsn lsn_of number_of
older = refl

breaks : counts (left_over 25) (create 5 ∷ []) ≡ 2
unfolding page_number page_lsn lsn_of number_of
breaks = refl

-- Folders that come to the same tables, where one file isn't current: the same write of page 0 leads them apart.
same_before : counts (left_over 20) (create 5 ∷ []) ≡ counts nothing (create 5 ∷ [])
unfolding page_number page_lsn lsn_of number_of
same_before = refl

apart_after : counts (with_page (file t Rows) 0 (page_at 22) (left_over 20)) (create 5 ∷ []) ≡ 2
unfolding page_number page_lsn lsn_of number_of put_page
apart_after = refl

-- ---- pending undo records

abbrev begins : Lsn
begins = record { file = 0; offset = 0 }

-- an undo record at place n, behind the one at that log sequence number
abbrev undo : ℕ → Lsn → Logged
undo n prev = record { at = n; group = UndoKeyInsert t prev 0 0 [] ∷ [] }

abbrev clear : ℕ → Lsn → Lsn → Logged
clear n undone next = record { at = n; group = ClrEnd t undone next ∷ [] }

abbrev commit : ℕ → Logged
commit n = record { at = n; group = Commit ∷ [] }

two_pending : pending_of (undo 5 begins ∷ undo 6 (lsn_at_place 5) ∷ []) ≡ 6 ∷ 5 ∷ []
two_pending = refl

one_left : pending_of (undo 5 begins ∷ undo 6 (lsn_at_place 5) ∷ clear 7 (lsn_at_place 6) (lsn_at_place 5) ∷ []) ≡ 5 ∷ []
one_left = refl

none_left : pending_of (undo 5 begins ∷ commit 6 ∷ []) ≡ []
none_left = refl

whole : unchained begins (undo 5 begins ∷ undo 6 (lsn_at_place 5) ∷ clear 7 (lsn_at_place 6) (lsn_at_place 5) ∷ clear 8 (lsn_at_place 5) begins ∷ undo 9 begins ∷ []) ≡ None
whole = refl

-- it names one that isn't pending; nothing is there to be undone; and the next one is another
broken : unchained begins (undo 5 begins ∷ commit 6 ∷ undo 7 (lsn_at_place 5) ∷ []) ≡ Some 7
broken = refl

none_to_undo : unchained begins (clear 5 (lsn_at_place 4) begins ∷ []) ≡ Some 5
none_to_undo = refl

other_next : unchained begins (undo 5 begins ∷ clear 6 (lsn_at_place 5) (lsn_at_place 5) ∷ []) ≡ Some 6
other_next = refl

-- up to the checkpoint nothing is asked
before_checkpoint : unchained (lsn_at_place 7) (undo 7 (lsn_at_place 5) ∷ []) ≡ None
before_checkpoint = refl
