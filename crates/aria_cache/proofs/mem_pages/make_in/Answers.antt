use Rattle.std.proofs.Common.{◌≡◌, ◌∙◌, sym, refl, false, Option, None, Some}
use Rattle.std.specs.Prelude.{Ok, Err, OnOk, OnErr, Result}
use Rattle.std.specs.Option.{is_some}
use Rattle.aria_cache.specs.MemPages.{file_in}
use Rattle.aria_cache.proofs.MemFiles.{put_empty, same_entries}
use Rattle.aria_cache.proofs.mem_pages.make_in.Goals as goal

not_there : {A : Type 0} (o : Option A) → is_some o ≡ false → o ≡ None
not_there None e = refl
not_there (Some x) e = absurd (cc)

either : {A E : Type 0} {P Q G : Type 0} (r : Result A E) → OnOk r P → OnErr r Q → (P → G) → (Q → G) → G
either (Ok x) p q one other = one p
either (Err x) p q one other = other q

pub returns-clause-same : goal.returns-clause-same
returns-clause-same c =
    let none : file_in c.args.files.now c.args.name ≡ None = not_there (file_in c.args.files.now c.args.name) (sym c.contains_key.ensures ∙ c.if-contains_key.false) in
    either c.insert.result c.insert.ensures.updates c.insert.ensures.err
    (λ updates. put_empty c.args.part c.args.files.now c.insert.new.self c.args.name c.new.result updates.0 none c.new.ensures.set c.new.ensures.count c.new.ensures.none)
    (λ same. same_entries c.args.part c.args.files.now c.insert.new.self same)
