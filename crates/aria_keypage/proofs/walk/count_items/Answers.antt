use Rattle.std.proofs.Common.{◌≡◌, ◌+◌, ◌≤◌, ◌++◌, arith, sym, ap, subst, ◌∙◌, List, ℕ, length, take}
use Rattle.std.proofs.lemmas.Bool.{eqb-false}
use Rattle.std.proofs.lemmas.List.{length-take, take-take}
use Rattle.aria_page.specs.Field.{AreBytes}
use Rattle.aria_keypage.specs.StoredItem.{StoredItem, IsStored, entry_of}
use Rattle.aria_keypage.proofs.Stored.{raw_takes, stored-bounds}
use Rattle.aria_keypage.proofs.Counted.{Counted, counted-none, counted-more, counted-stuck, counted-odd, counted-bytes, rest-shorter}
use Rattle.aria_keypage.proofs.walk.count_items.Goals as goal

pub loop-rest-init : goal.loop-rest-init
loop-rest-init c = record { counted = counted-none c.args.width c.args.items.now; len = omega arith }

pub returns-in_default-clause-none : goal.returns-in_default-clause-none
returns-in_default-clause-none c xs is =
    counted-stuck c.args.width c.args.items.now (take c.loop-rest.len c.loop-rest.entry) c.loop-rest.rest.now c.loop-rest.count xs c.loop-rest.invariant.counted
    (eqb-false _ _ (sym c.is_empty.ensures ∙ c.loop-rest-test.true)) c.in_default.ensures is

pub returns-then-not-is_stored-clause-none : goal.returns-then-not-is_stored-clause-none
returns-then-not-is_stored-clause-none c xs is =
    let r : StoredItem = record { shared = c.in-Some.item.shared; rest = c.in-Some.item.rest.now; to = c.in-Some.item.to.now } in
    counted-odd c.args.width c.args.items.now (take c.loop-rest.len c.loop-rest.entry) c.loop-rest.rest.now c.loop-rest.count xs (r, c.in-Some.behind.now) c.loop-rest.invariant.counted
    (eqb-false _ _ (sym c.is_empty.ensures ∙ c.loop-rest-test.true)) c.in-Some.ensures (λ stored. let no = sym c.if-not-is_stored.true ∙ c.is_stored.ensures.1 stored in absurd cc) is

pub put_behind-requires : goal.put_behind-requires
put_behind-requires c =
    let bounds = stored-bounds (take c.loop-rest.len c.loop-rest.entry) (record { shared = c.in-Some.item.shared; rest = c.in-Some.item.rest.now; to = c.in-Some.item.to.now }) (c.is_stored.ensures.0 c.if-not-is_stored.false) in
    omega (arith, bounds.1)

pub loop-rest-smaller : goal.loop-rest-smaller
loop-rest-smaller c =
    let are : AreBytes c.args.items.now = λ i. omega (arith, c.type_inv.items i) in
    let bytes = counted-bytes c.args.width c.args.items.now _ c.loop-rest.rest.now c.loop-rest.count are c.loop-rest.invariant.counted in
    rest-shorter c.loop-rest.rest.now _ (raw_takes c.args.width c.loop-rest.rest.now _ bytes c.in-Some.ensures).0

pub loop-rest-preserved : goal.loop-rest-preserved
loop-rest-preserved c =
    let r : StoredItem = record { shared = c.in-Some.item.shared; rest = c.in-Some.item.rest.now; to = c.in-Some.item.to.now } in
    let before : List ℕ = take c.loop-rest.len c.loop-rest.entry in
    let are : AreBytes c.args.items.now = λ i. omega (arith, c.type_inv.items i) in
    let bytes = counted-bytes c.args.width c.args.items.now before c.loop-rest.rest.now c.loop-rest.count are c.loop-rest.invariant.counted in
    let read = raw_takes c.args.width c.loop-rest.rest.now (r, c.in-Some.behind.now) bytes c.in-Some.ensures in
    let stored : IsStored before r = c.is_stored.ensures.0 c.if-not-is_stored.false in
    let bounds = stored-bounds before r stored in
    let low : r.shared ≤ c.loop-rest.len = omega (arith, bounds.0, length-take c.loop-rest.len c.loop-rest.entry) in
    let more = counted-more c.args.width c.args.items.now before c.loop-rest.rest.now c.loop-rest.count (r, c.in-Some.behind.now) c.loop-rest.invariant.counted read.0 read.1 stored in
    let put : entry_of before r ≡ take (r.shared + length r.rest) c.put_behind.new.entry =
    ap (λ (l : List ℕ). l ++ r.rest) (take-take r.shared c.loop-rest.len c.loop-rest.entry low) ∙ sym c.put_behind.ensures in
    record {
      counted = subst (λ (b : List ℕ). Counted c.args.width c.args.items.now b c.in-Some.behind.now (c.loop-rest.count + 1)) put more;
      len = bounds.1;
    }
