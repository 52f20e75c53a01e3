-- The kinds of a table's pages.
use Rattle.std.specs.Prelude.{ℕ}
use Rattle.aria_page.specs.declared.page_kind.PageKind.{PageKind}
use Rattle.aria_page.specs.declared.page_kind.PageKind.TheVariants.{FreeData, Header, Bitmap, Head, Tail, Blob, FreeIndex, Dynamic, Leaf, Node}

-- the first byte of the body of a page of this kind
abbrev pub kind_byte : PageKind → ℕ
kind_byte FreeData = 0
kind_byte Header = 1
kind_byte Bitmap = 2
kind_byte Head = 3
kind_byte Tail = 4
kind_byte Blob = 5
kind_byte FreeIndex = 8
kind_byte Dynamic = 9
kind_byte Leaf = 10
kind_byte Node = 11
