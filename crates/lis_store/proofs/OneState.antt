-- An image spells one state.
use Rattle.lis_store.proofs.Common.{◌≡◌, refl, sym, ap, ap₂, ◌∙◌, subst, ℕ, suc, Bool, List, [], ◌∷◌, length, slice_get, Option, Some, IsTrue, arith, part, block, replayed, is_prop, Limits, State, axiom_slots, prop_bytes, axiom_bytes, file_bytes}
use Rattle.lis_slots.specs.Slots.{Slots}
use Rattle.lis_fields.specs.Layouts.{is_axiom, is_file}
use Rattle.lis_fields.proofs.OneSpelling.{super_once, prop_once, axiom_once, file_once}
use Rattle.lis_kept.specs.Areas.{property_slots, file_slots}
use Rattle.lis_store.specs.Stands.{Contents, AreSlots, spelled_state, Spells, Stands}
use Rattle.lis_kept.specs.Image.{image_layout}

-- two lists of one length with the same value at each index
same_lists : {X : Type 0} (xs ys : List X) → length xs ≡ length ys → ((k : ℕ) (x y : X) → slice_get xs k ≡ Some x → slice_get ys k ≡ Some y → x ≡ y) → xs ≡ ys
same_lists [] [] len each = refl
same_lists [] (y ∷ ys) len each = absurd (omega arith)
same_lists (x ∷ xs) [] len each = absurd (omega arith)
same_lists (x ∷ xs) (y ∷ ys) len each =
    ap₂ (λ z zs. z ∷ zs) (each 0 x y refl refl) (same_lists xs ys (omega arith) (λ k u v is_u is_v. each (suc k) u v is_u is_v))

-- an array of slots spells one list of values, if each spelling has one value
pub one_array : {X : Type 0} (spelled : X → List ℕ) (is_in_range : X → Bool) (slots : Slots) (at : ℕ → List ℕ) (xs ys : List X)
    → ((x y : X) → IsTrue (is_in_range x) → IsTrue (is_in_range y) → spelled x ≡ spelled y → x ≡ y)
    → AreSlots spelled is_in_range slots at xs → AreSlots spelled is_in_range slots at ys → xs ≡ ys
one_array spelled is_in_range slots at xs ys one are_xs are_ys =
    same_lists xs ys (are_xs.count ∙ sym are_ys.count) (λ k x y is_x is_y.
    let here = are_xs.each k x is_x in
    let there = are_ys.each k y is_y in
    one x y here.1 there.1 (sym here.0 ∙ there.0))

one_spelled : (limits : Limits) (a b : Contents) (at : ℕ → List ℕ) (s t : State) → Spells limits a at s → Spells limits b at t → s ≡ t
one_spelled limits a b at s t spells_s spells_t =
    let properties = one_array prop_bytes is_prop (property_slots limits) at a.properties b.properties prop_once spells_s.properties spells_t.properties in
    let axioms = one_array axiom_bytes is_axiom (axiom_slots limits) at a.axioms b.axioms axiom_once spells_s.axioms spells_t.axioms in
    let files = one_array (file_bytes limits.version) (is_file limits) (file_slots limits) at a.files b.files (file_once limits) spells_s.files spells_t.files in
    let first = ap (λ ps. spelled_state limits (record { properties = ps; axioms = a.axioms; files = a.files }) at) properties in
    let next = ap₂ (λ xs fs. spelled_state limits (record { properties = b.properties; axioms = xs; files = fs }) at) axioms files in
    let same : spelled_state limits a at ≡ spelled_state limits b at = first ∙ next in
    spells_s.state ∙ (same ∙ sym spells_t.state)

one_replay : (a b : List ℕ) → ◌≡◌ {A = Option (List ℕ)} (Some a) (Some b) → a ≡ b
one_replay a b e = cc

pub one_state : (image : List ℕ) (s t : State) → Stands image s → Stands image t → s ≡ t
unfolding Stands
one_state image s t stands_s stands_t =
    let limits = super_once s.limits t.limits (part 0 4096 image) stands_s.range stands_t.range stands_s.super stands_t.super in
    let replay = one_replay stands_s.replay stands_t.replay (sym stands_s.replays ∙ (ap (λ (l : Limits). replayed (image_layout l) image) limits ∙ stands_t.replays)) in
    let moved = subst (λ (r : List ℕ). Spells t.limits stands_t.contents (λ n. block n r) t) (sym replay) stands_t.spells in
    let there = subst (λ (l : Limits). Spells l stands_t.contents (λ n. block n stands_s.replay) t) (sym limits) moved in
    one_spelled s.limits stands_s.contents stands_t.contents (λ n. block n stands_s.replay) s t stands_s.spells there
