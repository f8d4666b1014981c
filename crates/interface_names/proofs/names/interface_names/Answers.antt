use Rattle.std.proofs.Common.{map, sym, subst}
use Rattle.wasm_types.specs.Entries.{import_value}
use Rattle.core_links.specs.Names.{names_in}
use Rattle.interface_names.specs.Names.{AreNamesById}
use Rattle.interface_names.specs.Found.{AreNone, texts_of}
use Rattle.interface_names.proofs.Finding.{all_found}
use Rattle.interface_names.proofs.names.interface_names.Goals as goal

pub put_needed-requires-clause-none : goal.put_needed-requires-clause-none
put_needed-requires-clause-none c = subst (AreNone (texts_of c.in_ok-texts.texts.items)) c.len.ensures c.in_ok-texts.ensures

pub returns : goal.returns
returns c =
    let n = names_in c.args.names.now in
    let is = map import_value c.args.imports.now in
    let old = texts_of c.put_needed.new.texts.items in
    let new = texts_of c.put_others.new.texts.items in
    subst (AreNamesById n is) (sym c.in_ok-found.ensures) (all_found n is old new (c.in_ok-put_needed.ensures.yes c.if-not-branch.false) c.in_ok-put_others.ensures)
