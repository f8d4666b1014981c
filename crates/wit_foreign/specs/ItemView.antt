-- What paths of items stand for.
use Rattle.std.specs.Prelude.{ℕ, List, map, option_map}
use Rattle.wit_package_types.specs.Passed.wit_arena-Tree.{Owner}
use Rattle.wit_foreign.specs.declared.items.ItemPath.{ItemPath}
use Rattle.wit_foreign.specs.Items.{Items, place_asked, id_asked}

abbrev pub path_owner : ItemPath → Owner
path_owner p = record { package_text = record { namespace = p.namespace.now; name = p.«package».now; version = option_map (λ v. v.now) p.version }; place = place_asked p.asked p.item.now }

abbrev pub item_entries : List (ItemPath × ℕ) → Items
item_entries es = map (λ e. (path_owner e.0, id_asked e.0.asked e.1)) es
