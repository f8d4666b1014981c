use Rattle.std.proofs.lemmas.Result.{IfOk-weaker}
use Rattle.right_components.specs.Passed.link_table-Linking.{linking_value, types_of}
use Rattle.linked_imports.proofs.Entries.{entry_there, entry_within, entry_at, found_there, entry_index}
use Rattle.linked_imports.proofs.imports.Imported.index_at.Goals as goal

pub place-requires : goal.place-requires
place-requires c =
    let l = linking_value c.args.linking.now in
    let r = c.requires.entry in
    record { links = (l.names, l.main.imports, c.requires.links, entry_within l r.0 r.1 r.2 c.args.index r.3) }

pub function_at-requires : goal.function_at-requires
function_at-requires c =
    let l = linking_value c.args.linking.now in
    let r = c.requires.entry in
    let at = c.place.ensures l.names l.main.imports r.1.import c.requires.links (entry_there l r.0 r.1 r.2 c.args.index r.3) in
    (at.item, at.has)

pub unreachable-requires : goal.unreachable-requires
unreachable-requires c =
    let l = linking_value c.args.linking.now in
    let r = c.requires.entry in
    let at = c.place.ensures l.names l.main.imports r.1.import c.requires.links (entry_there l r.0 r.1 r.2 c.args.index r.3) in
    c.in_default.ensures r.1.key r.1.function (entry_at l r.0 r.1 r.2 c.args.index r.3 c.place.result at)

pub index-requires : goal.index-requires
index-requires c =
    let l = linking_value c.args.linking.now in
    let r = c.requires.entry in
    let at = c.place.ensures l.names l.main.imports r.1.import c.requires.links (entry_there l r.0 r.1 r.2 c.args.index r.3) in
    let found = c.in-Some.ensures r.1.key r.1.function (entry_at l r.0 r.1 r.2 c.args.index r.3 c.place.result at) in
    (types_of l, found_there l r.0 r.1 r.2 c.args.index r.3 c.args.self.now c.in-Some.found c.requires.there found)

pub returns-clause-keeps : goal.returns-clause-keeps
returns-clause-keeps c = c.index.ensures.keeps (types_of (linking_value c.args.linking.now)) c.requires.good

pub returns-clause-ok : goal.returns-clause-ok
returns-clause-ok c t e is there =
    let l = linking_value c.args.linking.now in
    let at = c.place.ensures l.names l.main.imports e.import c.requires.links (entry_there l t e is c.args.index there) in
    let found = c.in-Some.ensures e.key e.function (entry_at l t e is c.args.index there c.place.result at) in
    let root = c.index.new.self.root in
    IfOk-weaker c.index.result _ _ (λ n h. entry_index l t e is c.args.index there root c.in-Some.found n found h)
    (c.index.ensures.ok (types_of l) c.requires.good (found_there l t e is c.args.index there c.args.self.now c.in-Some.found c.requires.there found))
