-- The rows of a module's functions have a test.
use Rattle.std.proofs.Common.{◌≡◌, ℕ, ◌<◌, Bool, true, false, None, IsSome, length, nat_lt, refl, arith}
use Rattle.std.proofs.lemmas.Bool.Decides.{nat_tests}
use Rattle.std.specs.Prelude.{◌+◌, Some, if◌then◌else◌}
use Rattle.wasm_types.specs.declared.module.Module.{Module}
use Rattle.wasm_types.specs.declared.place.Loc.{Loc}
use Rattle.wasm_types.specs.declared.place.Loc.TheVariants.{Global, Mem, Size, Host}
use Rattle.wasm_types.specs.Spaces.{func_types, globals_of}
use Rattle.wasm_types.specs.Subset.{IsSealed}
use Rattle.flow_domain.specs.declared.summary.Output.{Output as Asked}
use Rattle.flow_domain.specs.declared.summary.Output.TheVariants as out
use Rattle.flow_domain.specs.Bounds.{Cover, bounds}
use Rattle.flow_domain.specs.Rows.{Output, Ret, Final, Done, AnyRound}
use Rattle.flow_domain.specs.Summaries.{among, asked, place_of}
use Rattle.flow_domain.specs.Touch.{IsExact}
use Rattle.wassail_top.specs.Queries.{params_of}
use Rattle.wassail_top.specs.Summaries.{AreOf, AreRows, RowTest}
use Rattle.slice_whole.proofs.NotRefuted.{NotRefuted}
use Rattle.slice_whole.proofs.SomeCover.{some_cover}
use Rattle.slice_whole.proofs.Tested.{Test, each, places, untrue}

pub among_less : (before count k : ℕ) → IsSome (among before count k) → k < count
among_less before count k there = go (nat_lt k count) refl there
  where
    go : (b : Bool) → nat_lt k count ≡ b → IsSome (if b then Some (before + k) else None) → k < count
    go true is h = grind (arith, nat_tests, is)
    go false is h = absurd cc

module _ (m : Module) (W : Cover) where
  -- some round leads an output to an input
  abbrev IsRow : ℕ → Output → Loc → Type 0
  IsRow f o x = AreOf m f o x × AnyRound (bounds m W) f o x

  some_inputs : (f : ℕ) (o : Output) → NotRefuted ((x : Loc) → Test (IsRow f o x))
  some_inputs f o =
      places (IsRow f o) (length (params_of m f)) (length (globals_of m))
      (λ k le row. let lt = among_less _ (length (params_of m f)) k row.0.inp in omega arith)
      (λ k le row. let lt = among_less _ (length (globals_of m)) k row.0.inp in omega arith)

  abbrev AllInputs : ℕ → Output → Type 0
  AllInputs f o = (x : Loc) → Test (IsRow f o x)

  by_output : (f : ℕ) → ((k : ℕ) → AllInputs f (Final (Global k))) → AllInputs f Ret → AllInputs f (Final Mem) → AllInputs f (Final Size)
      → AllInputs f (Final Host) → AllInputs f Done → (o : Asked) → AllInputs f (asked o)
  by_output f globals ret mem size host done out.Ret = ret
  by_output f globals ret mem size host done (out.Global k) = globals k
  by_output f globals ret mem size host done out.Mem = mem
  by_output f globals ret mem size host done out.Size = size
  by_output f globals ret mem size host done out.Host = host
  by_output f globals ret mem size host done out.Done = done

  some_outputs : (f : ℕ) → NotRefuted ((o : Asked) → AllInputs f (asked o))
  some_outputs f never =
      each (λ k. AllInputs f (Final (Global k))) (length (globals_of m)) (λ k. some_inputs f (Final (Global k)))
      (λ k le x. untrue (IsRow f (Final (Global k)) x) (λ row. let lt = among_less _ (length (globals_of m)) k row.0.out in omega arith)) (λ globals.
      some_inputs f Ret (λ ret. some_inputs f (Final Mem) (λ mem. some_inputs f (Final Size) (λ size. some_inputs f (Final Host) (λ host. some_inputs f Done
      (λ done. never (by_output f globals ret mem size host done)))))))

  some_funcs : NotRefuted ((f : ℕ) (o : Asked) → AllInputs f (asked o))
  some_funcs =
      each (λ f. (o : Asked) → AllInputs f (asked o)) (length (func_types m)) some_outputs
      (λ f le o x. untrue (IsRow f (asked o) x) (λ row. let lt = row.0.func in omega arith))

  rows_by : IsExact m W → ((f : ℕ) (o : Asked) → AllInputs f (asked o)) → (rows : RowTest) × AreRows m rows
  rows_by exact tests = (
    λ f o i. (tests f o (place_of i)).0,
    record { cover = W; cover_is = exact; exact = λ f o i. (tests f o (place_of i)).1 },
  )

pub some_rows : (m : Module) → IsSealed m → NotRefuted ((rows : RowTest) × AreRows m rows)
some_rows m sealed never = some_cover m sealed (λ cover. some_funcs m cover.0 (λ tests. never (rows_by m cover.0 cover.1 tests)))
