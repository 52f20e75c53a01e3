-- The way from a root down.
use Rattle.std.specs.Prelude.{◌≡◌, Bool, true, false, List, [], take}
use Rattle.aria_key.specs.declared.path.Passed.{Passed}
use Rattle.aria_key.specs.declared.path.Path.{Path}

-- the nodes that were passed
abbrev pub passed : Path → List Passed
passed p = take p.len p.steps

-- whether no node is above
abbrev pub IsTop : Bool → List Passed → Type 0
IsTop top path = (top ≡ true → path ≡ []) × (top ≡ false → path ≡ [] → ⊥)
