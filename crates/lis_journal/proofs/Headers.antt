-- The numbers of a header, as they are written one by one and read.
use Rattle.std.proofs.Common.{◌≡◌, inl, ℕ, zero, suc, ◌+◌, ◌-◌, ◌*◌, ◌^◌, ◌<◌, ◌≤◌, ◌==◌, nat_lt, ◌&&◌, List, [], ◌∷◌, ◌++◌, length, get_or, take, drop, replicate, IsTrue, refl, sym, ◌∙◌, ap, subst, arith}
use Rattle.std.specs.Int.{w32, to_le_bytes, from_le_bytes}
use Rattle.std.specs.List.{list_all}
use Rattle.std.proofs.lemmas.Bool.{and_parts, lt-ltb, ltb-true}
use Rattle.std.proofs.lemmas.List.{drop-drop, take-take, take_more, map-append}
use Rattle.std.proofs.lemmas.Nat.{from_le_bytes-to_le_bytes_4}
use Rattle.lis_ports.specs.Bytes.{part, put}
use Rattle.lis_ports.proofs.Parts.{part-put, part-put_other, torn-put, length-put}
use Rattle.lis_journal.specs.declared.layout.Layout.{Layout}
use Rattle.lis_journal.specs.Record.{HomeBlock, homes, word, words, count_of, homes_of, rises, is_header, header_blocks, count_at, header_at}

pub word-put : (h : List ℕ) (k v : ℕ) → v < 2 ^ 32 → 4 * k + 4 ≤ length h → word k (put h (4 * k) (to_le_bytes w32 v)) ≡ v
word-put h k v fits le = ap (from_le_bytes w32) (part-put h (4 * k) (to_le_bytes w32 v) le) ∙ from_le_bytes-to_le_bytes_4 v fits

-- a number before stays
pub word-put_other : (h bytes : List ℕ) (k m : ℕ) → length bytes ≡ 4 → k < m → 4 * m + 4 ≤ length h → word k (put h (4 * m) bytes) ≡ word k h
word-put_other h bytes k m len lt le =
    ap (from_le_bytes w32) (part-put_other h (4 * m) bytes (omega (arith, len, le)) (4 * k) 4 (inl (omega (arith, lt))))

pub words-put : (h bytes : List ℕ) (k n m : ℕ) → length bytes ≡ 4 → k + n ≤ m → 4 * m + 4 ≤ length h → words k n (put h (4 * m) bytes) ≡ words k n h
words-put h bytes k zero m len lt le = refl
words-put h bytes k (suc n) m len lt le =
    let less : k + 1 + n ≤ m = omega (arith, lt) in
    let below : k < m = omega (arith, lt) in
    ap (λ w. w ∷ words (k + 1) n (put h (4 * m) bytes)) (word-put_other h bytes k m len below le)
    ∙ ap (λ ws. word k h ∷ ws) (words-put h bytes (k + 1) n m len less le)

pub words-snoc : (h : List ℕ) (k n : ℕ) → words k (suc n) h ≡ words k n h ++ word (k + n) h ∷ []
words-snoc h k zero = let same : k ≡ k + 0 = omega arith in ap (λ m. word m h ∷ []) same
words-snoc h k (suc n) =
    let same : k + 1 + n ≡ k + suc n = omega arith in
    ap (λ ws. word k h ∷ ws) (words-snoc h (k + 1) n ∙ ap (λ m. words (k + 1) n h ++ word m h ∷ []) same)

pub zeros-drop : (n : ℕ) (xs : List ℕ) → IsTrue (list_all (λ b. b == 0) xs) → IsTrue (list_all (λ b. b == 0) (drop n xs))
zeros-drop zero xs zeros = zeros
zeros-drop (suc n) [] zeros = zeros
zeros-drop (suc n) (x ∷ xs) zeros = zeros-drop n xs (and_parts (x == 0) (list_all (λ b. b == 0) xs) zeros).1

-- the zeros after a number that is written
pub zeros_behind : (h bytes : List ℕ) (m : ℕ) → length bytes ≡ 4 → 4 * m + 4 ≤ length h → IsTrue (list_all (λ b. b == 0) (drop (4 * m) h)) → IsTrue (list_all (λ b. b == 0) (drop (4 * (m + 1)) (put h (4 * m) bytes)))
zeros_behind h bytes m len le zeros =
    let end : 4 * m + length bytes ≡ 4 * (m + 1) = omega (arith, len) in
    let next : 4 * m + 4 ≡ 4 * (m + 1) = omega arith in
    let torn = torn-put h (4 * m) bytes (omega (arith, len, le)) in
    let same : drop (4 * (m + 1)) (put h (4 * m) bytes) ≡ drop 4 (drop (4 * m) h) =
    ap (λ n. drop n (put h (4 * m) bytes)) (sym end) ∙ (torn.after ∙ (ap (λ n. drop n h) (end ∙ sym next) ∙ sym (drop-drop 4 (4 * m) h))) in
    subst (λ xs. IsTrue (list_all (λ b. b == 0) xs)) (sym same) (zeros-drop 4 (drop (4 * m) h) zeros)

-- the next number of those that are left
pub words_left : (h : List ℕ) (k c : ℕ) → k ≤ c → words k (c + 1 - k) h ≡ word k h ∷ words (k + 1) (c + 1 - (k + 1)) h
words_left h k c le = let more : c + 1 - k ≡ suc (c + 1 - (k + 1)) = omega arith in ap (λ n. words k n h) more

pub none_left : (h : List ℕ) (k c : ℕ) → c < k → words k (c + 1 - k) h ≡ []
none_left h k c lt = let none : c + 1 - k ≡ 0 = omega arith in ap (λ n. words k n h) none

-- one more home
pub rises_on : (blocks last home : ℕ) (hs : List ℕ) → last < home → home < blocks → rises blocks last (home ∷ hs) ≡ rises blocks home hs
rises_on blocks last home hs above within =
    ap (λ b. b && nat_lt home blocks && rises blocks home hs) (lt-ltb last home above)
    ∙ ap (λ b. b && rises blocks home hs) (lt-ltb home blocks within)

zeros-replicate : (n : ℕ) → IsTrue (list_all (λ b. b == 0) (replicate n 0))
zeros-replicate zero = refl
zeros-replicate (suc n) = zeros-replicate n

-- The header so far: the count, these homes, and zeros.
pub record Begun (len_is : ℕ) (h : List ℕ) (c : ℕ) (hs : List ℕ) (k : ℕ) : Type 0 where
  pub len : length h ≡ len_is
  pub count : word 0 h ≡ c
  pub done : words 1 k h ≡ hs
  pub zeros : IsTrue (list_all (λ b. b == 0) (drop (4 * (k + 1)) h))

pub begin_header : (n : ℕ) (z h : List ℕ) (c : ℕ) → 4 ≤ n → z ≡ replicate n 0 → length z ≡ n → h ≡ put z (4 * 0) (to_le_bytes w32 c) → c < 2 ^ 32 → Begun n h c [] 0
begin_header n z h c some zeros len is fits =
    let le : 4 * 0 + 4 ≤ length z = omega (arith, len, some) in
    record {
      len = ap length is ∙ (length-put z (4 * 0) (to_le_bytes w32 c) le ∙ len);
      count = ap (word 0) is ∙ word-put z 0 c fits le;
      done = refl;
      zeros = subst (λ xs. IsTrue (list_all (λ b. b == 0) (drop (4 * (0 + 1)) xs))) (sym is)
          (zeros_behind z (to_le_bytes w32 c) 0 refl le (subst (λ xs. IsTrue (list_all (λ b. b == 0) xs)) (sym zeros) (zeros-replicate n)));
    }

pub one_home_more : (n : ℕ) (h h' : List ℕ) (c k : ℕ) (hs : List ℕ) (home : ℕ) → Begun n h c hs k → h' ≡ put h (4 * (k + 1)) (to_le_bytes w32 home) → home < 2 ^ 32 → 4 * (k + 1) + 4 ≤ n → Begun n h' c (hs ++ home ∷ []) (k + 1)
one_home_more n h h' c k hs home begun is fits few =
    let bytes = to_le_bytes w32 home in
    let le : 4 * (k + 1) + 4 ≤ length h = omega (arith, begun.len, few) in
    let some : 0 < k + 1 = omega arith in
    let within : 1 + k ≤ k + 1 = omega arith in
    let next : k + 1 ≡ suc k = omega arith in
    let at : 1 + k ≡ k + 1 = omega arith in
    record {
      len = ap length is ∙ (length-put h (4 * (k + 1)) bytes le ∙ begun.len);
      count = ap (word 0) is ∙ (word-put_other h bytes 0 (k + 1) refl some le ∙ begun.count);
      done = ap (words 1 (k + 1)) is
          ∙ (ap (λ n. words 1 n (put h (4 * (k + 1)) bytes)) next
          ∙ (words-snoc (put h (4 * (k + 1)) bytes) 1 k
          ∙ (ap (λ ws. ws ++ word (1 + k) (put h (4 * (k + 1)) bytes) ∷ []) (words-put h bytes 1 k (k + 1) refl within le ∙ begun.done)
          ∙ ap (λ w. hs ++ w ∷ []) (ap (λ n. word n (put h (4 * (k + 1)) bytes)) at ∙ word-put h (k + 1) home fits le))));
      zeros = subst (λ xs. IsTrue (list_all (λ b. b == 0) (drop (4 * (k + 1 + 1)) xs))) (sym is) (zeros_behind h bytes (k + 1) refl le begun.zeros);
    }

pub homes-take : (es : List HomeBlock) (k : ℕ) (d : HomeBlock) (home : ℕ) → k < length es → home ≡ (get_or es k d).home → homes (take k es) ++ home ∷ [] ≡ homes (take (k + 1) es)
homes-take es k d home lt is =
    ap (λ h. homes (take k es) ++ h ∷ []) is
    ∙ (sym (map-append (λ (e : HomeBlock). e.home) (take k es) (get_or es k d ∷ [])) ∙ ap homes (sym (take_more es k d lt)))

pub record IsForm (layout : Layout) (h : List ℕ) : Type 0 where
  pub some : 0 < count_of h
  pub rise : IsTrue (rises layout.blocks (layout.records + 1) (homes_of h))

pub form_of : (layout : Layout) (h : List ℕ) → IsTrue (is_header layout h) → IsForm layout h
form_of layout h form =
    let a = and_parts (nat_lt 0 (count_of h) && rises layout.blocks (layout.records + 1) (homes_of h)) (list_all (λ b. b == 0) (drop (4 * (count_of h + 1)) h)) form in
    let b = and_parts (nat_lt 0 (count_of h)) (rises layout.blocks (layout.records + 1) (homes_of h)) a.0 in
    record { some = ltb-true 0 (count_of h) b.0; rise = b.1 }

pub length-words : (m n : ℕ) (h : List ℕ) → length (words m n h) ≡ n
length-words m zero h = refl
length-words m (suc n) h = ap suc (length-words (m + 1) n h)

-- one comparison of the homes
pub rises_step : (blocks last home k c : ℕ) (h : List ℕ) → k ≤ c → home ≡ word k h → last < home → home < blocks → rises blocks last (words k (c + 1 - k) h) ≡ rises blocks home (words (k + 1) (c + 1 - (k + 1)) h)
rises_step blocks last home k c h le is above within =
    ap (rises blocks last) (words_left h k c le ∙ ap (λ w. w ∷ words (k + 1) (c + 1 - (k + 1)) h) (sym is))
    ∙ rises_on blocks last home (words (k + 1) (c + 1 - (k + 1)) h) above within

-- ---- a header in an image
-- the count, by the first bytes of the image from its block on
pub count-part : (b n : ℕ) (image : List ℕ) → 4 ≤ n → count_of (part (4096 * b) n image) ≡ count_at b image
count-part b n image le = ap (from_le_bytes w32) (take-take 4 n (drop (4096 * b) image) le)

pub count-header : (b : ℕ) (image : List ℕ) → count_of (header_at b image) ≡ count_at b image
count-header b image = count-part b (4096 * header_blocks (count_at b image)) image (omega arith)
