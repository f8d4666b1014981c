-- What the code keeps and answers, as values.
use Rattle.flat_types.specs.Flats.{FlatValue}
use Rattle.flat_types.specs.Signature.{SignatureValue, RequiredValue}
use Rattle.flat_types.specs.declared.known.Flat.{Flat}
use Rattle.flat_types.specs.declared.known.Known.{Known}
use Rattle.flat_types.specs.declared.signature.Required.{Required}
use Rattle.flat_types.specs.declared.signature.WasmSignature.{WasmSignature}

abbrev pub flat_value : Flat → FlatValue
flat_value f = record { values = f.values.items; holds_string = f.holds_string; holds_list = f.holds_list }

abbrev pub known_value : Known → FlatValue
known_value k = record { values = k.values.now; holds_string = k.holds_string; holds_list = k.holds_list }

abbrev pub signature_value : WasmSignature → SignatureValue
signature_value s = record { params = s.params.items; results = s.results.items; indirect_params = s.indirect_params; retptr = s.retptr }

abbrev pub required_value : Required → RequiredValue
required_value r = record { memory = r.memory; realloc = r.realloc; encoding = r.encoding }
