-- Whether a reply fits an imported function of a module (docs/MEANING.md, "The host").
use Rattle.std.specs.Prelude.{◌≡◌, ℕ, ◌+◌, ◌*◌, Bool, false, List, length, Option, Some, None, Result, Ok, Err, slice_get}
use Rattle.wasm_types.specs.declared.module.Module.{Module}
use Rattle.wasm_types.specs.declared.module.GlobalType.{GlobalType}
use Rattle.wasm_types.specs.declared.run.Reply.{Reply}
use Rattle.wasm_types.specs.Hosts.{HostFunc, host_of, reply_fits}

abbrev pub fits_host : Option HostFunc → ℕ → Reply → Bool
fits_host None long r = false
fits_host (Some H) long r = reply_fits H long r

-- a reply fits the imported function of a number, where the memory has so many pages
abbrev pub fits_import : Module → ℕ → Reply → ℕ → Bool
fits_import m f r pages = fits_host (host_of m f) (65536 * pages) r

-- What a search among imported globals answers: the global's type, or how far the number is past the last of them.
abbrev pub FindsGlobal : Result GlobalType ℕ → ℕ → List GlobalType → Type 0
FindsGlobal (Ok g) k gs = slice_get gs k ≡ Some g
FindsGlobal (Err left) k gs = k ≡ left + length gs
