use Rattle.std.proofs.Common.{◌≡◌, ◌∙◌, List, [], ℕ, ap, sym, subst, arith}
use Rattle.std.specs.List.{list_any}
use Rattle.std.proofs.lemmas.List.{take_all}
use Rattle.aria_value.specs.Named.{same_name}
use Rattle.aria_host.proofs.Moments.{unchanged_after}
use Rattle.aria_host.specs.Folder.{Folder}
use Rattle.aria_record.specs.Writing.{records_of}
use Rattle.aria_pager.specs.declared.page_store.PageStore.{PageStore}
use Rattle.aria_pager.specs.Filing.{with_tables}
use Rattle.aria_pager.specs.Entered.{IsEntering}
use Rattle.aria_pager.proofs.Given.{next_of, have_more}
use Rattle.aria_pager.proofs.page_store.PageStore.give_slots.Goals as goal

pub loop-name-preserved : goal.loop-name-preserved
loop-name-preserved g c =
    let a = c.args.self.now in
    let l = c.loop-name.self in
    let n = c.give_slot.new.self in
    let i : ℕ = c.loop-name.name-index in
    let names : List (List ℕ) = c.args.names.now in
    record {
      enters = λ told checkpoint groups has low empty is.
          let first = c.loop-name.invariant.enters told checkpoint groups has low empty is in
          let same = (c.loop-name.invariant.same told).folder in
          let none : records_of l.writer ≡ [] = ap (λ (s : PageStore). records_of s.writer) c.loop-name.invariant.rest ∙ empty in (
            subst (λ (d : Folder). IsEntering n d groups) same (c.in_ok-give_slot.ensures.enters told checkpoint groups has low none (subst (λ (d : Folder). IsEntering l d groups) (sym same) first.0)),
            have_more l n groups names i c.name-item.result (next_of names i c.name-item.result c.loop-name-test.true c.name-item.is) c.in_ok-give_slot.ensures.keeps (c.in_ok-give_slot.ensures.given checkpoint groups has) first.1,
          );
      told = λ checkpoint groups has told. c.in_ok-give_slot.ensures.told checkpoint groups has (c.loop-name.invariant.told checkpoint groups has told);
      tidy = λ is. c.in_ok-give_slot.ensures.tidy (c.loop-name.invariant.tidy is);
      most = (let e = c.in_ok-give_slot.ensures.most in let h = c.loop-name.invariant.most in omega (arith, e, h));
      rest = c.in_ok-give_slot.ensures.rest ∙ ap (λ (s : PageStore). with_tables s s.frames n.slots n.tables) c.loop-name.invariant.rest;
      same = λ told. unchanged_after (g.H.Host.state c.args.host.now) (g.H.Host.state c.loop-name.host) (g.H.Host.state c.give_slot.new.host) (c.loop-name.invariant.same told) (c.in_ok-give_slot.ensures.same told);
      disk = c.in_ok-give_slot.ensures.cause.calm ∙ c.loop-name.invariant.disk;
      tell = c.in_ok-give_slot.ensures.cause.tell ∙ c.loop-name.invariant.tell;
    }

pub returns-clause-enters : goal.returns-clause-enters
returns-clause-enters g c = λ told checkpoint groups has low empty is.
    let first = c.loop-name.invariant.enters told checkpoint groups has low empty is in
    (first.0, λ name in_it needs. first.1 name (ap (list_any (same_name name)) (take_all c.loop-name.name-index c.args.names.now c.loop-name-test.false) ∙ in_it) needs)
