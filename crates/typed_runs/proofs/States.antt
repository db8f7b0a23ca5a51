-- What a step owes of the state.
use Rattle.std.proofs.Common.{◌≡◌, List, [], ◌∷◌, ◌++◌, map, length, refl, sym, ap, ◌∙◌, arith, append-nil, append_assoc}
use Rattle.wasm_types.specs.declared.module.ValType.{ValType}
use Rattle.wasm_types.specs.declared.module.Module.{Module}
use Rattle.wasm_types.specs.Spaces.{globals_of}
use Rattle.wasm_meaning.specs.State.{State, Store, HostCall}
use Rattle.wasm_meaning.specs.Fits.{Fits, HaveTypes, global_type}
use Rattle.wasm_meaning.specs.Run.{turned}
use Rattle.wasm_meaning.specs.HostCalls.{told}
use Rattle.typed_runs.specs.Kept.{StateKept, StoreKept}
use Rattle.typed_runs.proofs.Bytes.{AreBytes}

-- the state that a run starts from
pub kept_start : (m : Module) (s : State) → Fits m s → StateKept m s s
kept_start m s f = record { fits = f; table = refl; cap = refl; host = refl; host_calls = ([], sym (append-nil s.host_calls)); turns = omega arith }

module _ (m : Module) (z : State) where
  -- a state that has other globals, pages or bytes
  pub kept_by : (s s' : State) → StateKept m z s → Fits m s' → s'.table ≡ s.table → s'.cap ≡ s.cap → s'.host ≡ s.host → s'.host_calls ≡ s.host_calls
      → s'.turns ≡ s.turns → StateKept m z s'
  kept_by s s' k f table cap host calls turns =
      let n = k.turns in
      record {
        fits = f;
        table = table ∙ k.table;
        cap = cap ∙ k.cap;
        host = host
            ∙ k.host;
        host_calls = (k.host_calls.0, calls ∙ k.host_calls.1);
        turns = omega arith;
      }

  -- a state of as many pages
  pub fits_by : (s s' : State) → Fits m s → HaveTypes s'.globals (map global_type (globals_of m)) → length s'.bytes ≡ length s.bytes → AreBytes s'.bytes
      → s'.pages ≡ s.pages → s'.cap ≡ s.cap → s'.table ≡ s.table
      → Fits m s'
  fits_by s s' f globals long bytes pages cap table =
      let le = f.pages in
      let le' = f.below_cap in
      let l = f.long in
      record {
        globals = globals;
        pages = omega arith;
        below_cap = omega arith;
        below_maximum = rw pages f.below_maximum;
        long = omega arith;
        bytes = bytes;
        table = rw table f.table;
      }

  pub turned_kept : (types : List ValType) (s : Store) → StoreKept m z types s → StoreKept m z types (turned s)
  turned_kept types s k =
      let n = k.state.turns in
      record {
        locals = k.locals;
        state = record {
          fits = fits_by s.state (turned s).state k.state.fits k.state.fits.globals refl k.state.fits.bytes refl refl refl;
          table = k.state.table;
          cap = k.state.cap;
          host = k.state.host;
          host_calls = k.state.host_calls;
          turns = omega arith;
        };
      }

  pub told_kept : (call : HostCall) (s : State) → StateKept m z s → StateKept m z (told call s)
  told_kept call s k = record {
    fits = fits_by s (told call s) k.fits k.fits.globals refl k.fits.bytes refl refl refl;
    table = k.table;
    cap = k.cap;
    host = k.host;
    host_calls = (k.host_calls.0 ++ call ∷ [], ap (λ x. x ++ call ∷ []) k.host_calls.1 ∙ append_assoc z.host_calls k.host_calls.0 (call ∷ []));
    turns = k.turns;
  }
