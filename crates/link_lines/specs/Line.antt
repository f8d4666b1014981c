-- Lines of links: what one core import, one core export or one exported function ends at (Canonical ABI, canon lift and canon lower).
use Rattle.std.specs.Prelude.{ℕ, List, Option, Some, None, option_map, string_bytes}
use Rattle.link_lines.specs.declared.line.LinkSide.{LinkSide}
use Rattle.link_lines.specs.declared.line.LinkKind.{LinkKind}
use Rattle.link_lines.specs.declared.line.Owner.{Owner}
use Rattle.link_lines.specs.declared.line.Owner.TheVariants.{Main, Adapter}
use Rattle.link_lines.specs.declared.line.Link.{Link}
use Rattle.link_lines.specs.declared.encoding.StringEncoding.{StringEncoding}

-- a line, without where its texts lie in memory
pub record LinkValue : Type 0 where
  pub side : LinkSide
  -- the name of an adapter or library; the main module has none
  pub owner : Option (List ℕ)
  pub «module» : Option (List ℕ)
  pub name : Option (List ℕ)
  pub kind : LinkKind
  pub place : Option (List ℕ)
  pub item : Option (List ℕ)
  pub memory : Option (List ℕ)
  pub realloc : Option (List ℕ)
  pub encoding : Option StringEncoding
  pub post_return : Option (List ℕ)
  pub hook : Option (List ℕ)

abbrev pub owner_name : Owner → Option (List ℕ)
owner_name Main = None
owner_name (Adapter name) = Some (string_bytes name)

abbrev pub link_value : Link → LinkValue
link_value l = record {
  side = l.side;
  owner = owner_name l.owner;
  «module» = option_map string_bytes l.«module»;
  name = option_map string_bytes l.name;
  kind = l.kind;
  place = option_map string_bytes l.place;
  item = option_map string_bytes l.item;
  memory = option_map string_bytes l.memory;
  realloc = option_map string_bytes l.realloc;
  encoding = l.encoding;
  post_return = option_map string_bytes l.post_return;
  hook = option_map string_bytes l.hook;
}
