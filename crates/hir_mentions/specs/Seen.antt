-- What lent mentions are as plain data.
use Rattle.std.specs.Prelude.{List, map}
use Rattle.std.specs.Global.{Vec}
use Rattle.hir_ids.specs.declared.ids.SymbolId.TheVariants as symbol
use Rattle.hir_ids.specs.declared.ids.TypeId.TheVariants as type
use Rattle.hir_mentions.specs.Mentions.{Mentioned, Path, Plain, Borrow}
use Rattle.hir_mentions.specs.declared.mentions.Mention.{Mention}
use Rattle.hir_mentions.specs.declared.mentions.Mention.TheVariants as mention

-- the same, with ids and lifetimes themselves where they are lent
abbrev pub mentioned : Mention → Mentioned
mentioned (mention.Struct id lifetimes) = Path (symbol.TypeId (type.Struct id.now)) lifetimes.now
mentioned (mention.OutStruct id lifetimes) = Path (symbol.TypeId (type.OutStruct id.now)) lifetimes.now
mentioned (mention.Opaque id lifetimes) = Path (symbol.TypeId (type.Opaque id.now)) lifetimes.now
mentioned (mention.Trait id lifetimes) = Path (symbol.TraitId id.now) lifetimes.now
mentioned (mention.Enum id) = Plain (symbol.TypeId (type.Enum id.now))
mentioned (mention.OpaqueAlone id) = Plain (symbol.TypeId (type.Opaque id.now))
mentioned (mention.Borrow lifetime) = Borrow lifetime.now

-- each of a list
abbrev pub all_mentioned : Vec Mention → List Mentioned
all_mentioned mentions = map mentioned mentions.items
