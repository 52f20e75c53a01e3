use Rattle.std.proofs.Common.{arith}
use Rattle.aria_keypage.proofs.Stored.{shared-le}
use Rattle.aria_keypage.proofs.Spliced.{pushed-item}
use Rattle.aria_keypage.proofs.item.push_stored.Goals as goal

pub bytes_from-rest-requires : goal.bytes_from-rest-requires
bytes_from-rest-requires c = omega (arith, c.shared_of-shared.ensures, (shared-le c.args.before.now c.args.entry.now).1)

pub returns : goal.returns
returns c w n et =
    pushed-item w n c.shared_of-shared.result c.args.out.now.items c.args.before.now c.args.entry.now c.bytes_from-rest.result.now c.args.to.now _ _ _ _ c.u16_bytes.result
    c.shared_of-shared.ensures c.bytes_from-rest.ensures.value et c.u16_bytes.ensures c.in_ok-push.ensures.items c.in_ok-extend_from_slice.ensures.items c.in_ok-extend_from_slice-2.ensures.items c.in_ok-extend_from_slice-3.ensures.items
