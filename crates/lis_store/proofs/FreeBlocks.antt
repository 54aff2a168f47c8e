-- The blocks that no file takes are those that are free.
use Rattle.lis_store.proofs.Common.{rules, ◌≡◌, refl, sym, ap, ◌∙◌, subst, inl, inr, ℕ, ◌+◌, ◌<◌, nat_lt, not, ◌&&◌, Bool, true, false, List, [], ◌∷◌, length, map, sum, set, replicate, arith, length-append, length-set, get_or-set_other, flat_map, list_all, and_parts, lt-ltb, ltb-true, not-true, not_from_false, length-replicate, get_or-replicate, sum_by-set, Among, among_from_contains, contains_from_among, among_flat_map, is_taken, free_count, are_free, Filed, Limits, State, File, blocks_taken, used_blocks, blocks_told, state_of, Tells, and_from, both_ways, sum_by-cons, flat_map_among, marked, has_number, are_distinct, all_among, all_from, same_tests, file_told, among_from_number, number_from_among}
use Rattle.lis_blockmap.proofs.Taken.{all_free}
use Rattle.lis_store.specs.Stored.{Stored, IsSound}
use Rattle.lis_store.proofs.ToldBy.{ToldBy}
use Rattle.lis_store.proofs.StoreSays.{limits_told, files_told, size_of_filed}
use Rattle.lis_store.proofs.FileBlocks.{told_counted}
use Rattle.lis_store.proofs.Marks.{marks_are}
use Rattle.lis_store.proofs.Spelled.{used, used_once, told_below}

-- ---- after a block is taken, one block fewer is free
one_fewer : (taken : List Bool) (n : ℕ) → n < length taken → is_taken taken n ≡ false → free_count (set taken n true) + 1 ≡ free_count taken
one_fewer taken n lt free = search (rules, sum_by-set)

pub free_after_marks : (taken : List Bool) (ns : List ℕ) → are_distinct ns ≡ true → are_free taken ns ≡ true → free_count (marked taken ns) + length ns ≡ free_count taken
free_after_marks taken [] apart free = omega arith
free_after_marks taken (b ∷ ns) apart free =
    let first = and_parts (nat_lt b (length taken) && not (is_taken taken b)) (list_all (λ n. nat_lt n (length taken) && not (is_taken taken n)) ns) free in
    let here = and_parts (nat_lt b (length taken)) (not (is_taken taken b)) first.0 in
    let once = and_parts (not (has_number ns b)) (are_distinct ns) apart in
    let one = one_fewer taken b (ltb-true b (length taken) here.0) (not-true (is_taken taken b) here.1) in
    let still : are_free (set taken b true) ns ≡ true = all_from (λ n. nat_lt n (length (set taken b true)) && not (is_taken (set taken b true) n)) ns (λ n m.
    let was = and_parts (nat_lt n (length taken)) (not (is_taken taken n)) (all_among (λ i. nat_lt i (length taken) && not (is_taken taken i)) ns n first.1 m) in
    let differ : n ≡ b → ⊥ = λ same. both_ways (has_number ns b) (not-true (has_number ns b) once.0) (number_from_among ns b (subst (λ k. Among ns k) same m)) in
    and_from (nat_lt n (length (set taken b true))) (not (is_taken (set taken b true) n))
    (lt-ltb n (length (set taken b true)) (omega (arith, ltb-true n (length taken) was.0, length-set taken b true)))
    (ap not (get_or-set_other taken b n true false differ) ∙ was.1)) in
    omega (arith, one, free_after_marks (set taken b true) ns once.1 still)

module _ (k : Stored) (s : State) (sound : IsSound k) (fits : ToldBy k s) where
  abbrev told : Filed → File
  told = file_told k.metadata.limits k.metadata.dict fits.kept

  abbrev taken_blocks : List ℕ
  taken_blocks = used k.metadata sound.metadata fits.kept

  tells_itself : Tells k.metadata fits.kept (state_of k.metadata fits.kept)
  tells_itself = subst (λ (x : State). Tells k.metadata fits.kept x) (sym fits.tells.state) fits.tells

  once : are_distinct taken_blocks ≡ true
  once = used_once k.metadata fits.kept sound.metadata sound.free sound.pairs fits.written tells_itself

  below : (n : ℕ) → Among taken_blocks n → n < k.metadata.limits.blocks
  below = told_below k.metadata fits.kept sound.metadata sound.free sound.pairs fits.written tells_itself

  -- ---- how many blocks files take
  abbrev blocks_of : Filed → List ℕ
  blocks_of f = blocks_told k.metadata.limits fits.kept f.rec

  pub version_told : s.limits.version ≡ k.metadata.limits.version
  version_told = ap (λ (l : Limits). l.version) (sym (limits_told k.metadata fits.kept s sound.metadata sound.free fits.tells))

  one_takes : (f : Filed) → Among k.metadata.catalog.entries f → blocks_taken s.limits.version (length (told f).bytes) ≡ length (blocks_of f)
  one_takes f there = search (rules, version_told, size_of_filed, told_counted)

  all_take : (fs : List Filed) → ((f : Filed) → Among fs f → Among k.metadata.catalog.entries f)
      → sum (map (λ (file : File). blocks_taken s.limits.version (length file.bytes)) (map told fs)) ≡ length (flat_map blocks_of fs)
  all_take [] there = refl
  all_take (f ∷ fs) there =
      let taken : File → ℕ = λ file. blocks_taken s.limits.version (length file.bytes) in
      omega (
        arith,
        sum_by-cons (λ (n : ℕ). n) (taken (told f)) (map taken (map told fs)),
        one_takes f (there f (inl refl)),
        all_take fs (λ g of. there g (inr of)),
        length-append (blocks_of f) (flat_map blocks_of fs),
      )

  used_counted : used_blocks s ≡ length taken_blocks
  used_counted =
      ap (λ (fs : List File). sum (map (λ (file : File). blocks_taken s.limits.version (length file.bytes)) fs)) (sym (files_told k.metadata fits.kept s sound.metadata sound.free fits.tells))
      ∙ all_take k.metadata.catalog.entries (λ f there. there)

  -- ---- and these blocks are the taken ones
  marks_told : k.metadata.taken ≡ marked (replicate k.metadata.limits.blocks false) taken_blocks
  marks_told = marks_are k.metadata.taken taken_blocks k.metadata.limits.blocks sound.metadata.blocks (λ n lt.
      same_tests (is_taken k.metadata.taken n) (has_number taken_blocks n)
      (λ taken.
      let of = fits.tells.taken n lt taken in
      number_from_among taken_blocks n
      (flat_map_among blocks_of k.metadata.catalog.entries of.file n (among_from_contains k.metadata.catalog.entries of.file of.kept) (among_from_number (blocks_of of.file) n of.has)))
      (λ has_it.
      let found = among_flat_map blocks_of k.metadata.catalog.entries n (among_from_number taken_blocks n has_it) in
      (fits.tells.given found.0 (contains_from_among k.metadata.catalog.entries found.0 found.1) n (number_from_among (blocks_of found.0) n found.2)).1))

  free_before : are_free (replicate k.metadata.limits.blocks false) taken_blocks ≡ true
  free_before = search (rules, all_from, below, and_from, lt-ltb, length-replicate, not_from_false, get_or-replicate)

  -- the files take the blocks that are not free
  pub used_told : used_blocks s + free_count k.metadata.taken ≡ s.limits.blocks
  used_told = search (rules, free_after_marks, once, free_before, used_counted, marks_told, all_free, limits_told)
