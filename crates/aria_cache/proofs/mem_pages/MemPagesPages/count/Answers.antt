use Rattle.std.proofs.Common.{◌≤◌, ◌^◌, subst, sym, ℕ}
use Rattle.aria_host.specs.declared.file_name.FileName.TheVariants.{Keys, Rows}
use Rattle.aria_cache.proofs.mem_pages.MemPagesPages.count.Goals as goal

pub returns-in-Keys-clause-most : goal.returns-in-Keys-clause-most
returns-in-Keys-clause-most c = subst (λ (n : ℕ). n ≤ 2 ^ 31) (sym c.count_in.ensures) (c.requires.stands.low (Keys c.name_of-name.result))

pub returns-in-Rows-clause-most : goal.returns-in-Rows-clause-most
returns-in-Rows-clause-most c = subst (λ (n : ℕ). n ≤ 2 ^ 31) (sym c.count_in-in-Rows.ensures) (c.requires.stands.low (Rows c.name_of-name.result))
