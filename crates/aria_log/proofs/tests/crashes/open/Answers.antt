use Rattle.std.proofs.Common.{◌∙◌, inl, inr, [], refl, sym}
use Rattle.aria_host.specs.MemHost.{mem_state}
use Rattle.aria_log.proofs.Bases.{opened_reads, start_given}
use Rattle.aria_log.proofs.Staying.{look_opened}
use Rattle.aria_log.proofs.tests.crashes.open.Goals as goal

pub count_groups-requires : goal.count_groups-requires
count_groups-requires c =
    elim (c.in_ok-log.ensures.opened refl) [
      | inl fails ↦ absurd fails
      | inr answers ↦
          let is = answers.1 in
          let (entries, stands, all, start) = opened_reads c.first_byte-from.result c.in_ok-log.log (mem_state c.open.new.host) is.base is.groups c.in_ok-log.log.last is.base_is is.opened in
          (is.base, [], entries, stands, sym (start_given c.first_byte-from.result c.first_byte-from.ensures.given) ∙ start)
    ]

pub returns : goal.returns
returns c =
    elim (c.in_ok-log.ensures.opened refl) [
      | inl fails ↦ absurd fails
      | inr answers ↦
          let is = answers.1 in
          (is.base, is.groups, look_opened c.in_ok-log.log (mem_state c.open.new.host) (mem_state c.count_groups.new.host) is.base is.groups c.in_ok-log.log.last c.count_groups.ensures is.opened)
    ]
