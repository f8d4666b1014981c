-- What a walk knows, as values.
use Rattle.component_audit.specs.declared.walk.Walk.{Walk}
use Rattle.wit_component.specs.Linking.{MainModule}
use Rattle.wit_component.specs.Meaning.{Spaces}
use Rattle.wit_component.specs.View.{linking}
use Rattle.component_audit.specs.SpacesView.{spaces}

abbrev pub main_of_walk : Walk → MainModule
main_of_walk w = (linking w.linking.now).main

abbrev pub spaces_of : Walk → Spaces
spaces_of w = spaces (main_of_walk w) w.spaces
