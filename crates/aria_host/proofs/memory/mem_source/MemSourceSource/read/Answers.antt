use Rattle.std.proofs.Common.{◌≡◌, ◌-◌, ◌+◌, ◌^◌, min, drop, List, ℕ, ◌∙◌, ◌++◌, take, ap, sym, length}
use Rattle.aria_host.specs.MemSource.{left_of}
use Rattle.aria_host.proofs.Front.{takes_front}
use Rattle.aria_host.proofs.memory.mem_source.MemSourceSource.read.Goals as goal

pub returns-clause-ok : goal.returns-clause-ok
returns-clause-ok c =
    let old = c.args.self.now in
    let mid = c.fails.new.self in
    let n = c.copy_front-n.result in
    let same : left_of mid ≡ left_of old = cc in
    let after : drop (mid.at + n) mid.bytes.items ≡ drop (old.at + n) old.bytes.items = cc in
    let takes = takes_front old.bytes.items c.rest.result.now c.copy_front-n.new.into old.at n (length c.args.into.now) old.taken (c.rest.ensures ∙ same) c.requires c.copy_front-n.auto.into c.copy_front-n.ensures.count c.copy_front-n.ensures.copied in
    record {
      within = takes.within;
      counted = c.saturating_add-self-2.ensures ∙ ap (λ (t : ℕ). min (t + n) (2 ^ 128 - 1)) c.if-fails.ensures.same.taken;
      bytes = λ told. takes.bytes told ∙ ap (λ (l : List ℕ). take n c.copy_front-n.new.into ++ l) (sym after);
      end = takes.end;
    }
