use Rattle.std.proofs.Common.{◌≡◌, nat_eq, take}
use Rattle.std.specs.Option.{option_map}
use Rattle.std.specs.Map.{update}
use Rattle.aria_page.specs.Lsn.{lsn_number}
use Rattle.aria_cache.specs.Frames.{held}
use Rattle.aria_recovery.specs.Redo.{edits_on}
use Rattle.aria_pager.specs.Redone.{redone_by}
use Rattle.aria_pager.proofs.redo.redo_frame.Given as goal

abbrev pub invariant-loop-entry : goal.invariant-loop-entry
invariant-loop-entry l = record {
  held : held l.frames ≡ update nat_eq (held l.fn.frames) l.key (option_map (redone_by (lsn_number l.lsn) (edits_on l.name l.at.part l.at.page (take l.entry-index l.group))) (held l.fn.frames l.key));
  pins : l.frames.pins ≡ l.fn.frames.pins;
}
