use Rattle.std.proofs.Common.{List, ℕ, [], get_or, sym, ap, ◌∙◌}
use Rattle.std.proofs.lemmas.Bool.{both_ways}
use Rattle.lis_graph.proofs.Members.{among_at, all_among, map_among}
use Rattle.lis_words.specs.Words.{is_property}
use Rattle.lis_dict.specs.Dict.{words}
use Rattle.lis_dict.proofs.Entries.{DictEntry}
use Rattle.lis_dict.proofs.dict.Dict.place_from.Goals as goal

-- each entry has a property
pub unreachable-requires : goal.unreachable-requires
unreachable-requires c =
    let d = c.args.self.now in
    let k = c.in_default.field-0 in
    let none : DictEntry = ([], 0) in
    let found : List ℕ = (get_or d.entries k none).0 in
    let is = all_among is_property (words d) found c.in_default.ensures.kept.forms (map_among (λ (e : DictEntry). e.0) d.entries (get_or d.entries k none) (among_at d.entries k none c.in_default.ensures.bound)) in
    both_ways (is_property c.args.bytes.now) c.requires (sym (ap is_property (c.in_default.ensures.found none)) ∙ is)
