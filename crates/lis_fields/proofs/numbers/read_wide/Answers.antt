use Rattle.std.proofs.Common.{◌≡◌, ◌*◌, ◌∙◌, sym, ap, subst, ℕ, ◌<◌, ◌==◌, if◌then◌else◌, eq-eqb, List, length, get_or, true, arith}
use Rattle.byteorder.specs.Endian.{little_number, IsRead}
use Rattle.lis_model.specs.Sets.{fit}
use Rattle.lis_fields.specs.Layouts.{number_width}
use Rattle.lis_fields.proofs.NumberLists.{wide, read_wide}
use Rattle.lis_fields.proofs.numbers.read_wide.Goals as goal

-- numbers of four bytes are those of version 3
read : (version : ℕ) (bytes ns : List ℕ) → (version == 3) ≡ true → length bytes ≡ number_width version * length ns → ((k : ℕ) → get_or bytes k 0 < 256) → IsRead little_number 4 bytes ns
    → (fit (number_width version) ns ≡ true) × (bytes ≡ wide (number_width version) ns)
read version bytes ns three len small is =
    let four : number_width version ≡ 4 = ap (λ b. if b then 4 else 2) three in
    subst (λ w. (fit w ns ≡ true) × (bytes ≡ wide w ns)) (sym four) (read_wide 4 bytes ns (subst (λ w. length bytes ≡ w * length ns) four len) small is)

pub returns-then-version-eq3-clause-fit : goal.returns-then-version-eq3-clause-fit
returns-then-version-eq3-clause-fit c =
    (read c.args.version c.args.bytes.now c.read_u32_into.new.dst (eq-eqb c.args.version 3 c.if-version-eq3.true)
    (c.requires ∙ ap (λ n. number_width c.args.version * n) (let same : length c.args.numbers.now ≡ length c.read_u32_into.new.dst = omega arith in same)) (λ k. omega (arith, c.type_inv.bytes k)) c.read_u32_into.ensures).0

pub returns-then-version-eq3-clause-spelled : goal.returns-then-version-eq3-clause-spelled
returns-then-version-eq3-clause-spelled c =
    (read c.args.version c.args.bytes.now c.read_u32_into.new.dst (eq-eqb c.args.version 3 c.if-version-eq3.true)
    (c.requires ∙ ap (λ n. number_width c.args.version * n) (let same : length c.args.numbers.now ≡ length c.read_u32_into.new.dst = omega arith in same)) (λ k. omega (arith, c.type_inv.bytes k)) c.read_u32_into.ensures).1
