-- The keys under which worlds export (WIT, Item: `world`).
use Rattle.std.specs.Prelude.{List, map}
use Rattle.wit_order.specs.Order.{Has}
use Rattle.wit_types.specs.WorldKey.{Known, known}
use Rattle.wit_types.specs.declared.world.World.{World}
use Rattle.wit_types.specs.declared.world.WorldItem.{WorldItem}
use Rattle.wit_types.specs.declared.world_key.WorldKey.{WorldKey}

-- plain names by their spelling, interfaces by their ids
abbrev pub keys_of : List (WorldKey × WorldItem) → List Known
keys_of es = map (λ (e : WorldKey × WorldItem). known e.0) es

abbrev pub export_keys : World → List Known
export_keys w = keys_of w.exports.entries

-- a world exports something under a key under which another doesn't
abbrev pub ExportsMore : World → World → Type 0
ExportsMore v w = (key : Known) × Has (export_keys v) key × (Has (export_keys w) key → ⊥)
