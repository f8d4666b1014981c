use Rattle.std.proofs.Common.{take}
use Rattle.wit_order.specs.Order.{Has}
use Rattle.wit_types.specs.WorldKey.{Known}
use Rattle.export_keys.specs.Keys.{keys_of, export_keys}
use Rattle.export_keys.proofs.keys.exports_all.Given as goal

abbrev pub invariant-loop-place : goal.invariant-loop-place
invariant-loop-place l = (key : Known) → Has (keys_of (take l.place l.other.exports.entries)) key → Has (export_keys l.world) key
