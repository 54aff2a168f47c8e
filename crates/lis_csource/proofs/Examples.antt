-- Sources worked by the definitions alone.
use Rattle.std.proofs.Common.{◌≡◌, [], ◌∷◌, codes, refl}
use Rattle.lis_transducers.specs.Joined.{joined}
use Rattle.lis_transducers.specs.Pieces.{pieces}
use Rattle.lis_transducers.specs.Source.{source_words}

-- a comment hides an include, a string hides a brace, and a call inside braces defines nothing
a_source : source_words (codes "/* #include \"no.h\" */\n#include <stdio.h>\n#include \"sub/list.h\"\nstatic const char *s = \"{\";\nint main(void) {\n  puts(s);\n}\n")
    ≡ codes "includes:stdio.h" ∷ codes "includes:list.h" ∷ codes "defines:main" ∷ []
unfolding source_words joined pieces
a_source = refl

-- the parenthesis that closes the first one decides
a_callback : source_words (codes "int f(int (*g)(void)) { return h(1) ; }") ≡ codes "defines:f" ∷ []
unfolding source_words joined pieces
a_callback = refl

a_keyword : source_words (codes "if (x) {") ≡ []
unfolding source_words joined pieces
a_keyword = refl

-- a path needs its closing byte
an_open_path : source_words (codes "# /* */ include \"a/b.h") ≡ []
unfolding source_words joined pieces
an_open_path = refl

-- block comments do not nest, and a line ends a // comment
comments : source_words (codes "/* /* */ f(){} /* */ // g(){}\nh(){}") ≡ codes "defines:f" ∷ codes "defines:h" ∷ []
unfolding source_words joined pieces
comments = refl

-- lines are joined before comments are seen
joined_lines : source_words (codes "/\\\n* no(){} */in\\\r\nt f\\\n1(){}\n// \\\nno(){}") ≡ codes "defines:f1" ∷ []
unfolding source_words joined pieces
joined_lines = refl

-- a backslash escapes a quote, and a line end ends a string
strings : source_words (codes "\"\\\"f(){}\" \"\ng(){}") ≡ codes "defines:g" ∷ []
unfolding source_words joined pieces
strings = refl

-- the word of a function is in the order of its name, before those of the includes after the name
order : source_words (codes "f\n#include <a.h>\n(\n#include <b.h>\n)\n#include <c.h>\n{}")
    ≡ codes "defines:f" ∷ codes "includes:a.h" ∷ codes "includes:b.h" ∷ codes "includes:c.h" ∷ []
unfolding source_words joined pieces
order = refl

-- if it is not defined, only those of the includes are given
no_order : source_words (codes "f\n#include <a.h>\n(\n#include <b.h>\n)\n#include <c.h>\n;") ≡ codes "includes:a.h" ∷ codes "includes:b.h" ∷ codes "includes:c.h" ∷ []
unfolding source_words joined pieces
no_order = refl

-- an empty path gives the bare head, which is in the form of a word
empty_path : source_words (codes "#include <sys/>") ≡ codes "includes:" ∷ []
unfolding source_words joined pieces
empty_path = refl
