use Rattle.std.proofs.Common.{rules}
use Rattle.component_definitions.specs.Passed.component_value_types-Types.{defined_type, defined_type_value}
use Rattle.component_instances.specs.TypeDefinitions.{type_definition, form_of}
use Rattle.component_instances.proofs.Forms.{is_no_resource, is_no_instance}
use Rattle.component_instances.proofs.type_definitions.TypeDefinitionPart.put.Goals as goal

pub returns-in-Defined-clause-bytes : goal.returns-in-Defined-clause-bytes
unfolding type_definition form_of defined_type
returns-in-Defined-clause-bytes c = rw (c.in-Defined.is, is_no_resource (defined_type_value c.in-Defined.ty), is_no_instance (defined_type_value c.in-Defined.ty)) (search rules)

pub returns-in-Defined-clause-typed : goal.returns-in-Defined-clause-typed
unfolding type_definition form_of defined_type
returns-in-Defined-clause-typed c = rw (c.in-Defined.is, is_no_resource (defined_type_value c.in-Defined.ty), is_no_instance (defined_type_value c.in-Defined.ty)) (search rules)

pub returns-in-Defined-clause-large : goal.returns-in-Defined-clause-large
unfolding type_definition form_of defined_type
returns-in-Defined-clause-large c = rw (c.in-Defined.is, is_no_resource (defined_type_value c.in-Defined.ty), is_no_instance (defined_type_value c.in-Defined.ty)) (search rules)
