use Rattle.std.proofs.Common.{◌≡◌, ◌<◌, length, sym, arith, ◌+◌, ap}
use Rattle.flat_types.specs.Flats.{FlatValue, in_order, params_flat, ref_flat}
use Rattle.flat_types.proofs.Signing.{is_long, count_more, count_first}
use Rattle.flat_types.proofs.flat.FlatTypes.are_many.Goals as goal

pub returns-then-size-room : goal.returns-then-size-room
returns-then-size-room c =
    let more = count_more c.args.self.now c.args.params.now c.loop-param.param-index c.param-item.result c.loop-param-test.true c.param-item.is in
    let first = count_first c.args.self.now c.args.params.now (c.loop-param.param-index + 1) in
    let size : length c.of_part.result.values.now ≡ length (ref_flat c.args.self.now c.param-item.result.ty).values = ap (λ (v : FlatValue). length v.values) c.of_part.ensures in
    let long : 16 < length (in_order (params_flat c.args.self.now c.args.params.now)) = omega (arith, more, first, size) in
    sym (is_long 16 (in_order (params_flat c.args.self.now c.args.params.now)) long)
