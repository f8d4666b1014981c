-- What the values of the code stand for.
use Rattle.std.specs.Prelude.{map, option_map}
use Rattle.wit_syntax.specs.AstView as view
use Rattle.wit_scopes.specs.View as scope_view
use Rattle.wit_arena.specs.Tree.{Place}
use Rattle.wit_resolved_scopes.specs.Texts.{InterfaceText}
use Rattle.wit_interfaces.specs.declared.text.InterfaceText.{InterfaceText as Written}

-- at a place
abbrev pub text : Place → Written → InterfaceText
text o t = record { place = o; name = option_map (λ n. n.now) t.name; members = scope_view.members t.members.now; docs = view.docs t.front.now.docs; attributes = map view.attribute t.front.now.attributes.items; span = t.span }
