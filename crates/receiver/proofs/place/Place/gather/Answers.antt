use Rattle.std.proofs.Common.{◌+◌, ◌≤◌, length, ap, arith, rules}
use Rattle.std.proofs.lemmas.Iterator.Consumers.{YieldsList-turn, YieldsList-end}
use Rattle.std.proofs.lemmas.List.{length_push}
use Rattle.std.proofs.lemmas.Slice.{overwrites}
use Rattle.receiver.proofs.Gathering.{walk_gives, held_in, laid_more, laid_all}
use Rattle.receiver.proofs.place.Place.gather.Goals as goal

pub slice_bounds-copy_from_slice-end : goal.slice_bounds-copy_from_slice-end
slice_bounds-copy_from_slice-end c =
    let flat = c.flatten-part-items.ensures in
    let road = walk_gives c.args.count c.args.self.now.pieces c.iter.ensures.rest c.take.ensures.source c.take.ensures.count flat.source flat.front flat.back flat.done c.into_iter-part-iterator.ensures.into_iter_gives (λ x j b. (b.0, b.1)) in
    let t = YieldsList-turn road c.loop-part.yielded _ c.loop-part.yielded_by _ _ c.in-Some.part c.in-Some.is c.next.ensures.steps in
    omega (arith, t.0, held_in c.args.count c.args.self.now.pieces (search rules), c.loop-part.invariant.2.most, c.len.ensures.value, c.len.ensures.fits)

pub loop-part-preserved : goal.loop-part-preserved
loop-part-preserved c =
    let flat = c.flatten-part-items.ensures in
    let part = c.in-Some.part.now in
    let k = length c.loop-part.yielded in
    let short : length part.items ≤ 53 = let v = c.len.ensures.value in omega (arith, v, c.len.ensures.fits) in (
      search rules,
      search rules,
      let road = walk_gives c.args.count c.args.self.now.pieces c.iter.ensures.rest c.take.ensures.source c.take.ensures.count flat.source flat.front flat.back flat.done c.into_iter-part-iterator.ensures.into_iter_gives (λ x j b. (b.0, b.1)) in
          let t = YieldsList-turn road c.loop-part.yielded _ c.loop-part.yielded_by _ _ c.in-Some.part c.in-Some.is c.next.ensures.steps in
          rw (length_push c.loop-part.yielded c.in-Some.part)
          (laid_more _ _ k c.loop-part.len _ part c.loop-part.packet _ c.loop-part.invariant.2 t short (ap (λ n. c.loop-part.len + n) c.len.ensures.value) (search (rules, overwrites))),
    )

pub returns : goal.returns
returns c =
    let flat = c.flatten-part-items.ensures in
    let road = walk_gives c.args.count c.args.self.now.pieces c.iter.ensures.rest c.take.ensures.source c.take.ensures.count flat.source flat.front flat.back flat.done c.into_iter-part-iterator.ensures.into_iter_gives (λ x j b. (b.0, b.1)) in
    let t = YieldsList-end road c.loop-part.yielded _ c.loop-part.yielded_by _ _ c.in-None.is c.next.ensures.steps in
    let z = laid_all c.args.count c.args.self.now.pieces c.args.packet.now _ c.loop-part.len c.loop-part.packet c.loop-part.invariant.2 t.1 in
    record { len = z.0; packet = z.1 }
