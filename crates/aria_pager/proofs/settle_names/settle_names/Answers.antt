use Rattle.std.proofs.Common.{◌≡◌, ◌∙◌, true, false, List, ℕ, refl, sym, subst}
use Rattle.std.specs.List.{list_any}
use Rattle.std.proofs.lemmas.List.{take_all}
use Rattle.aria_value.specs.Named.{same_name}
use Rattle.aria_pager.proofs.Preparing.{prepares_none, prepares_on}
use Rattle.aria_pager.proofs.SettlingNames.{settled_more, unlisted_apart, other_name, other_kind, aside_kind}
use Rattle.aria_pager.proofs.settle_names.settle_names.Goals as goal

pub loop-name-init : goal.loop-name-init
loop-name-init g c = record {
  prepares = λ told checkpoint base start groups has is files. prepares_none c.args.log.now (g.H.Host.state c.args.host.now) base start groups (λ f b left. g.met.H.Host.only_now c.args.host.now f b told left) is;
  files = λ told is. is;
  settled = λ told checkpoint base start groups has is files q any. absurd (let e : false ≡ true = any in (cc));
  others = λ told f off. refl;
  kept = λ told q off part. refl;
  disk = refl;
  tell = refl;
}

pub settle_name-requires : goal.settle_name-requires
settle_name-requires g c = record {
  tables = λ told.
      let p = c.requires.tables told in
      (p.1, p.2, p.3, c.told.ensures p.0 p.3 p.4, (c.loop-name.invariant.prepares told p.0 p.1 p.2 p.3 p.4 p.5 p.6).tables);
}

pub loop-name-preserved : goal.loop-name-preserved
loop-name-preserved g c = record {
  prepares = λ told checkpoint base start groups has is files.
      let one = c.loop-name.invariant.prepares told checkpoint base start groups has is files in
      prepares_on c.args.log.now (g.H.Host.state c.args.host.now) (g.H.Host.state c.loop-name.host) (g.H.Host.state c.settle_name.new.host) base start groups one
      (c.in_ok-settle_name.ensures.prepares told base start groups (c.told.ensures checkpoint groups has) one.tables (c.loop-name.invariant.files told files));
  files = λ told is. c.in_ok-settle_name.ensures.files told (c.loop-name.invariant.files told is);
  settled = λ told checkpoint base start groups has is files.
      let one = c.loop-name.invariant.prepares told checkpoint base start groups has is files in
      settled_more c.args.names.now c.loop-name.name-index c.name-item.result groups (g.H.Host.state c.loop-name.host).folder (g.H.Host.state c.settle_name.new.host).folder c.loop-name-test.true c.name-item.is
      (c.in_ok-settle_name.ensures.settled told base start groups (c.told.ensures checkpoint groups has) one.tables) (c.in_ok-settle_name.ensures.others told) (c.loop-name.invariant.settled told checkpoint base start groups has is files);
  others = λ told f off. other_kind c.name-item.result f (g.H.Host.state c.loop-name.host).folder (g.H.Host.state c.settle_name.new.host).folder off (c.in_ok-settle_name.ensures.others told) ∙ c.loop-name.invariant.others told f off;
  kept = λ told q off part.
      other_name c.name-item.result q (g.H.Host.state c.loop-name.host).folder (g.H.Host.state c.settle_name.new.host).folder (unlisted_apart c.args.names.now c.loop-name.name-index c.name-item.result q c.loop-name-test.true c.name-item.is off)
      (c.in_ok-settle_name.ensures.others told) part ∙ c.loop-name.invariant.kept told q off part;
  disk = c.in_ok-settle_name.ensures.cause.calm ∙ c.loop-name.invariant.disk;
  tell = c.in_ok-settle_name.ensures.cause.tell ∙ c.loop-name.invariant.tell;
}

pub returns-in_err-settle_name-clause-prepares : goal.returns-in_err-settle_name-clause-prepares
returns-in_err-settle_name-clause-prepares g c = λ told checkpoint base start groups has is files.
    let one = c.loop-name.invariant.prepares told checkpoint base start groups has is files in
    prepares_on c.args.log.now (g.H.Host.state c.args.host.now) (g.H.Host.state c.loop-name.host) (g.H.Host.state c.settle_name.new.host) base start groups one
    (c.in_err-settle_name.ensures.prepares told base start groups (c.told.ensures checkpoint groups has) one.tables (c.loop-name.invariant.files told files))

pub returns-in_err-settle_name-clause-others : goal.returns-in_err-settle_name-clause-others
returns-in_err-settle_name-clause-others g c = λ told f off.
    other_kind c.name-item.result f (g.H.Host.state c.loop-name.host).folder (g.H.Host.state c.settle_name.new.host).folder off (c.in_err-settle_name.ensures.others told) ∙ c.loop-name.invariant.others told f off

pub returns-in_err-settle_name-clause-aside : goal.returns-in_err-settle_name-clause-aside
returns-in_err-settle_name-clause-aside g c = λ told f on.
    other_kind c.name-item.result f (g.H.Host.state c.loop-name.host).folder (g.H.Host.state c.settle_name.new.host).folder (aside_kind f on) (c.in_err-settle_name.ensures.others told) ∙ c.loop-name.invariant.others told f (aside_kind f on)

pub returns-in_err-settle_name-clause-kept : goal.returns-in_err-settle_name-clause-kept
returns-in_err-settle_name-clause-kept g c = λ told q off part.
    other_name c.name-item.result q (g.H.Host.state c.loop-name.host).folder (g.H.Host.state c.settle_name.new.host).folder (unlisted_apart c.args.names.now c.loop-name.name-index c.name-item.result q c.loop-name-test.true c.name-item.is off)
    (c.in_err-settle_name.ensures.others told) part ∙ c.loop-name.invariant.kept told q off part

pub returns-clause-settled : goal.returns-clause-settled
returns-clause-settled g c = λ told checkpoint base start groups has is files q any.
    c.loop-name.invariant.settled told checkpoint base start groups has is files q (subst (λ (l : List (List ℕ)). list_any (same_name q) l ≡ true) (sym (take_all c.loop-name.name-index c.args.names.now c.loop-name-test.false)) any)

pub returns-clause-aside : goal.returns-clause-aside
returns-clause-aside g c = λ told f on. c.loop-name.invariant.others told f (aside_kind f on)
