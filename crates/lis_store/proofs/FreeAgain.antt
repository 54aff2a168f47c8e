-- How many blocks are free after some are freed.
use Rattle.lis_store.proofs.Common.{rules, ◌≡◌, refl, ap, ◌∙◌, subst, inl, inr, ℕ, ◌+◌, ◌≤◌, not, Bool, true, false, cond, List, [], ◌∷◌, length, filter, set, Option, Some, IsSome, arith, get_or-set_other, and_parts, cases_lt, cond-false, not-true, sum_by-set, Among, Meaning, Held, is_taken, free_count, is_large, small_size, rec_at, FileRecord, blocks_taken, Metadata, AreSound, record_in_form, both_ways, given, has_number, are_distinct, GivesBack, number_from_among}
use Rattle.std.proofs.lemmas.List.{set_past}
use Rattle.lis_content.proofs.Numbers.{below_if_taken}
use Rattle.lis_kept.proofs.Dropped.{blocks_apart}
use Rattle.lis_laws.proofs.Locals.{filter_same}
use Rattle.lis_kept.proofs.InArea.{first_limit}
use Rattle.std.proofs.lemmas.Bool.{cond-true, eq-eqb}
use Rattle.lis_store.specs.Instead.{free_instead}

-- if a block was taken, one more is free
one_more_free : (taken : List Bool) (n : ℕ) → is_taken taken n ≡ true → free_count (set taken n false) ≡ free_count taken + 1
one_more_free taken n is = search (rules, sum_by-set, below_if_taken)

-- and if it was not, as many are free as before
as_many_free : (taken : List Bool) (n : ℕ) → is_taken taken n ≡ false → free_count (set taken n false) ≡ free_count taken
as_many_free taken n is = search (rules, cases_lt, sum_by-set, set_past)

pub free_given : (taken : List Bool) (ns : List ℕ) → are_distinct ns ≡ true → free_count (given taken ns) ≡ free_count taken + length (filter (is_taken taken) ns)
free_given taken [] apart = omega arith
free_given taken (b ∷ ns) apart =
    let once = and_parts (not (has_number ns b)) (are_distinct ns) apart in
    let rest = free_given (set taken b false) ns once.1 in
    let same : length (filter (is_taken (set taken b false)) ns) ≡ length (filter (is_taken taken) ns) = ap length (filter_same (is_taken (set taken b false)) (is_taken taken) ns (λ n m.
    get_or-set_other taken b n false false (λ is. both_ways (has_number ns b) (not-true (has_number ns b) once.0) (number_from_among ns b (subst (λ k. Among ns k) is m))))) in
    by (is_taken taken b) refl rest same
  where
    by : (t : Bool) → is_taken taken b ≡ t → free_count (given (set taken b false) ns) ≡ free_count (set taken b false) + length (filter (is_taken (set taken b false)) ns)
        → length (filter (is_taken (set taken b false)) ns) ≡ length (filter (is_taken taken) ns)
        → free_count (given (set taken b false) ns) ≡ free_count taken + length (cond t (b ∷ filter (is_taken taken) ns) (filter (is_taken taken) ns))
    by true is rest same = omega (arith, rest, same, one_more_free taken b is)
    by false is rest same = omega (arith, rest, same, as_many_free taken b is)

-- if each number passes a test, the filter keeps all of them
pub all_pass_filter : (test : ℕ → Bool) (ns : List ℕ) → ((n : ℕ) → Among ns n → test n ≡ true) → filter test ns ≡ ns
all_pass_filter test [] each = refl
all_pass_filter test (n ∷ ns) each =
    ap (λ b. cond b (n ∷ filter test ns) (filter test ns)) (each n (inl refl)) ∙ ap (λ ms. n ∷ ms) (all_pass_filter test ns (λ m of. each m (inr of)))

-- ---- a file whose blocks are freed
pub rec_some : (o : Option FileRecord) → IsSome o → (rec : FileRecord) × (o ≡ Some rec)
rec_some o some = search (rules)

module _ (p mid : Metadata) (slot : ℕ) (rec : FileRecord) (there : rec_at p.catalog slot ≡ Some rec) (sound : AreSound p) (journal : Held) (m : Meaning) (gives : GivesBack rec p mid journal m) (size : ℕ)
    (one : p.limits.version ≡ 1) (enough : blocks_taken p.limits.version size ≤ free_instead p rec) where
  small : is_large rec.size ≡ false
  small =
      let short = (record_in_form p.limits p.dict p.limits.blocks rec (sound.records slot rec there)).small in
      small_size rec.size (omega (arith, short, first_limit p.limits one))

  taken_given : mid.taken ≡ given p.taken rec.blocks
  taken_given = ap (λ (k : Metadata). k.taken) gives.takes.metadata ∙ ap (given p.taken) (gives.small small)

  -- in version 1 its blocks count as free
  pub enough_given : blocks_taken mid.limits.version size ≤ free_count mid.taken
  enough_given = search (rules, free_given, blocks_apart, cond-true, eq-eqb, cond-false, taken_given)
