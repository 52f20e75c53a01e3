use Rattle.std.proofs.Common.{◌≡◌, ◌∙◌, Some, ℕ, refl}
use Rattle.aria_page.specs.declared.lsn.Lsn.{Lsn}
use Rattle.aria_page.specs.declared.place.Part.{Part}
use Rattle.aria_page.specs.declared.place.Part.TheVariants.{Keys, Rows}
use Rattle.aria_recovery.specs.Noted.{edit_in, reach_in}
use Rattle.aria_recovery.specs.declared.life.Life.{Life}
use Rattle.aria_recovery.proofs.Noting.{puts, put_edits_same, put_reach_same, put_told, put_names}
use Rattle.aria_recovery.proofs.lives.repair.Goals as goal

-- the life with another file group
abbrev regrouped : Life → Lsn → Life
regrouped life at = record { file_group = Some at; told = life.told; keys = life.keys; rows = life.rows }

edits_same : (life : Life) (at : Lsn) (p : Part) (n : ℕ) → edit_in (regrouped life at) p n ≡ edit_in life p n
edits_same life at Keys n = refl
edits_same life at Rows n = refl

reach_same : (life : Life) (at : Lsn) (p : Part) → reach_in (regrouped life at) p ≡ reach_in life p
reach_same life at Keys = refl
reach_same life at Rows = refl

pub returns-clause-edits : goal.returns-clause-edits
returns-clause-edits c = put_edits_same c.args.name (regrouped c.take-life.result c.args.at) c.args.lives.now c.insert.new.self
    (puts c.args.name (regrouped c.take-life.result c.args.at) c.args.lives.now c.take-life.new.lives c.insert.new.self c.take-life.ensures.others c.in_ok-insert.ensures.updates.0)
    (λ p n. edits_same c.take-life.result c.args.at p n ∙ c.take-life.ensures.edits p n)

pub returns-clause-reach : goal.returns-clause-reach
returns-clause-reach c = put_reach_same c.args.name (regrouped c.take-life.result c.args.at) c.args.lives.now c.insert.new.self
    (puts c.args.name (regrouped c.take-life.result c.args.at) c.args.lives.now c.take-life.new.lives c.insert.new.self c.take-life.ensures.others c.in_ok-insert.ensures.updates.0)
    (λ p. reach_same c.take-life.result c.args.at p ∙ c.take-life.ensures.reach p)

pub returns-clause-told : goal.returns-clause-told
returns-clause-told c = put_told c.args.name (regrouped c.take-life.result c.args.at) c.args.lives.now c.insert.new.self
    (puts c.args.name (regrouped c.take-life.result c.args.at) c.args.lives.now c.take-life.new.lives c.insert.new.self c.take-life.ensures.others c.in_ok-insert.ensures.updates.0)
    c.take-life.ensures.told

pub returns-clause-names : goal.returns-clause-names
returns-clause-names c = put_names c.args.name (regrouped c.take-life.result c.args.at) c.args.lives.now c.insert.new.self
    (puts c.args.name (regrouped c.take-life.result c.args.at) c.args.lives.now c.take-life.new.lives c.insert.new.self c.take-life.ensures.others c.in_ok-insert.ensures.updates.0)
