-- What truth and listings see of a store: its words with their numbers, its files in their slots, as the extension rows show them, and what
-- words entail.
use Rattle.std.specs.Prelude.{map}
use Rattle.lis_dict.specs.Dict.{words}
use Rattle.lis_catalog.specs.Catalog.{Filed}
use Rattle.lis_ext.specs.Ext.{set_of}
use Rattle.lis_model.specs.State.{up}
use Rattle.lis_model.specs.Table.{Table}
use Rattle.lis_eval.specs.View as view
use Rattle.lis_kept.specs.Metadata.{Metadata}
use Rattle.lis_kept.specs.Telling.{words_told, declared_of, axioms_of}

-- a file with its description, in its slot
abbrev pub placed : Metadata → Filed → view.Placed
placed k f = record {
  slot = f.slot;
  entry = record { name = f.rec.name; size = f.rec.size; words = words_told k.dict (set_of k.ext f.slot) };
}

abbrev pub seen_of : Metadata → view.Seen
seen_of k = record {
  limits = k.limits;
  words = k.dict.entries;
  files = map (placed k) k.catalog.entries;
  entailed = map (λ p. (p, up (declared_of k) (axioms_of k) p)) (words k.dict);
}

-- the table of the metadata
abbrev pub table_of : Metadata → Table
table_of k = view.table_of (seen_of k)
