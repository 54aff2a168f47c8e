use Rattle.std.proofs.Common.{arith}
use Rattle.lis_kept.proofs.Common.{◌≡◌, ◌∙◌, ℕ, ◌<◌, ◌≤◌, List, length, take, get_or, sym, subst, take_more, same_Some}
use Rattle.std.proofs.lemmas.List.{take_all}
use Rattle.lis_kept.specs.Linking.{MayLink}
use Rattle.lis_kept.specs.Under.{LinksEach}
use Rattle.lis_kept.proofs.StandsUnder.{number_declared, may_link_next, each_more}
use Rattle.lis_kept.proofs.metadata.Metadata.declare_under.Goals.{After-declare_word-number}
use Rattle.lis_kept.proofs.metadata.Metadata.declare_under.Goals as goal

same : (c : After-declare_word-number) → c.declare_word-number.result ≡ c.declare_word-number.ensures.declares.number
same c =
    same_Some c.declare_word-number.result c.declare_word-number.ensures.declares.number
    (sym c.declare_word-number.ensures.number ∙ number_declared c.args.self.now c.declare_word-number.new.self c.args.word.now c.requires.new c.declare_word-number.ensures.declares)

pub link-requires : goal.link-requires
link-requires c =
    let mid = c.declare_word-number.new.self in
    let now = c.loop-place.self in
    let places = c.args.places.now in
    let i = c.loop-place.place-index in
    let is = same (goal.at.link-requires c).After-declare_word-number in
    let lt : i < length places = omega (arith, c.loop-place-test.true, c.loop-place.auto.place-index-end) in
    subst (λ n. MayLink n (get_or places i 0) now) (sym is)
    (may_link_next c.args.self.now mid now c.declare_word-number.ensures.was_sound c.loop-place.invariant.sound c.args.word.now c.requires.form c.requires.new c.declare_word-number.ensures.declares places c.requires.places i lt
    (subst (λ n. LinksEach n (take i places) mid now) is c.loop-place.invariant.links))

pub loop-place-preserved : goal.loop-place-preserved
loop-place-preserved c =
    let mid = c.declare_word-number.new.self in
    let places = c.args.places.now in
    let i = c.loop-place.place-index in
    let lt : i < length places = omega (arith, c.loop-place-test.true, c.loop-place.auto.place-index-end) in
    record {
      links = subst (λ ns. LinksEach c.declare_word-number.result ns mid c.link.new.self) (sym (take_more places i 0 lt))
          (each_more c.declare_word-number.result (take i places) (get_or places i 0) mid c.loop-place.self c.link.new.self c.loop-place.invariant.links c.link.ensures.links);
      sound = c.link.ensures.sound;
    }

pub returns : goal.returns
returns c =
    let mid = c.declare_word-number.new.self in
    let now = c.loop-place.self in
    let places = c.args.places.now in
    let le : length places ≤ c.loop-place.place-index = omega (arith, c.loop-place-test.false) in
    record {
      declares_under = record {
        mid = mid;
        declares = c.declare_word-number.ensures.declares;
        links =
            subst (λ n. LinksEach n places mid now) (same (goal.at.returns c).After-declare_word-number)
            (subst (λ (ns : List ℕ). LinksEach c.declare_word-number.result ns mid now) (take_all c.loop-place.place-index places le) c.loop-place.invariant.links);
      };
      sound = c.loop-place.invariant.sound;
    }
