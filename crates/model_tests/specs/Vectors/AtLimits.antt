-- Traces that go to the limits of chains, caches, counts and times.
use Rattle.std.specs.Prelude.{[], ◌∷◌}
use Rattle.std.proofs.Common.{lit≤}
use Rattle.snapshot.specs.declared.fault.Layer.TheVariants as layer
use Rattle.engine_model.specs.Examples.{read, wrote}
use Rattle.engine_model.specs.Replies.{leg, legs, value, counts, done}
use Rattle.engine_model.specs.Traces.{new_table}
use Rattle.engine_model.specs.declared.calls.Call.TheVariants as call
use Rattle.model_tests.specs.Answered.{Vector, account_reply, refused_reply}

-- a chain's thirty-third reading is refused
abbrev pub thirty_two_readings : Vector
thirty_two_readings =
    record {
      over = new_table 1024 (lit≤ tt);
      lines =
          (call.Begin 0 0, leg 0)
          ∷ (call.Read 0 0 0, value 0)
          ∷ (call.Read 0 0 1, value 0)
          ∷ (call.Read 0 0 2, value 0)
          ∷ (call.Read 0 0 3, value 0)
          ∷ (call.Read 0 0 4, value 0)
          ∷ (call.Read 0 0 5, value 0)
          ∷ (call.Read 0 0 6, value 0)
          ∷ (call.Read 0 0 7, value 0)
          ∷ (call.Read 0 0 8, value 0)
          ∷ (call.Read 0 0 9, value 0)
          ∷ (call.Read 0 0 10, value 0)
          ∷ (call.Read 0 0 11, value 0)
          ∷ (call.Read 0 0 12, value 0)
          ∷ (call.Read 0 0 13, value 0)
          ∷ (call.Read 0 0 14, value 0)
          ∷ (call.Read 0 0 15, value 0)
          ∷ (call.Read 0 0 16, value 0)
          ∷ (call.Read 0 0 17, value 0)
          ∷ (call.Read 0 0 18, value 0)
          ∷ (call.Read 0 0 19, value 0)
          ∷ (call.Read 0 0 20, value 0)
          ∷ (call.Read 0 0 21, value 0)
          ∷ (call.Read 0 0 22, value 0)
          ∷ (call.Read 0 0 23, value 0)
          ∷ (call.Read 0 0 24, value 0)
          ∷ (call.Read 0 0 25, value 0)
          ∷ (call.Read 0 0 26, value 0)
          ∷ (call.Read 0 0 27, value 0)
          ∷ (call.Read 0 0 28, value 0)
          ∷ (call.Read 0 0 29, value 0)
          ∷ (call.Read 0 0 30, value 0)
          ∷ (call.Read 0 0 31, value 0)
          ∷ (call.Read 0 0 5, value 0)
          ∷ (call.Read 0 0 40, refused_reply 8 layer.Chain 0 0 40)
          ∷ (call.Write 0 0 40 9, done)
          ∷ (call.Read 0 0 40, value 9)
          ∷ (call.Hand 0 0 1, leg 1)
          ∷ (call.Read 0 1 3, refused_reply 8 layer.Chain 0 1 3)
          ∷ (call.Read 0 1 40, value 9)
          ∷ (call.Commit 0 1 7 31 1, refused_reply 10 layer.Chain 0 1 255)
          ∷ (call.Commit 0 1 7 32 0, refused_reply 10 layer.Chain 0 1 255)
          ∷ (
            call.Commit 0 1 7 32 8,
            account_reply 0 0 7
                (read 0 0 0 0 0 ∷ read 0 1 0 0 0 ∷ read 0 2 0 0 0 ∷ read 0 3 0 0 0 ∷ read 0 4 0 0 0 ∷ read 0 5 0 0 0
                ∷ read 0 6 0 0 0 ∷ read 0 7 0 0 0 ∷ read 0 8 0 0 0 ∷ read 0 9 0 0 0 ∷ read 0 10 0 0 0 ∷ read 0 11 0 0 0
                ∷ read 0 12 0 0 0 ∷ read 0 13 0 0 0 ∷ read 0 14 0 0 0 ∷ read 0 15 0 0 0 ∷ read 0 16 0 0 0
                ∷ read 0 17 0 0 0 ∷ read 0 18 0 0 0 ∷ read 0 19 0 0 0 ∷ read 0 20 0 0 0 ∷ read 0 21 0 0 0
                ∷ read 0 22 0 0 0 ∷ read 0 23 0 0 0 ∷ read 0 24 0 0 0 ∷ read 0 25 0 0 0 ∷ read 0 26 0 0 0
                ∷ read 0 27 0 0 0 ∷ read 0 28 0 0 0 ∷ read 0 29 0 0 0 ∷ read 0 30 0 0 0 ∷ read 0 31 0 0 0 ∷ [])
                (wrote 40 9 ∷ []),
          )
          ∷ (call.Count, counts 0 0)
          ∷ [];
    }

-- a ninth write is refused, alone and by a join, and a key in both legs takes the second's value
abbrev pub eight_keys : Vector
eight_keys =
    record {
      over = new_table 1024 (lit≤ tt);
      lines =
          (call.Begin 1 2, leg 0)
          ∷ (call.Fork 1 0 3 4, legs 1 2)
          ∷ (call.Write 1 1 0 0, done)
          ∷ (call.Write 1 1 1 1, done)
          ∷ (call.Write 1 1 2 2, done)
          ∷ (call.Write 1 1 3 3, done)
          ∷ (call.Write 1 1 4 4, done)
          ∷ (call.Write 1 1 5 5, done)
          ∷ (call.Write 1 1 6 6, done)
          ∷ (call.Write 1 1 7 7, done)
          ∷ (call.Write 1 1 8 8, refused_reply 7 layer.Chain 1 1 8)
          ∷ (call.Write 1 1 7 70, done)
          ∷ (call.Write 1 2 7 71, done)
          ∷ (call.Write 1 2 9 9, done)
          ∷ (call.Join 1 1 2 5, refused_reply 7 layer.Chain 1 1 255)
          ∷ (call.Join 1 2 1 5, refused_reply 7 layer.Chain 1 2 255)
          ∷ (call.Abandon 1, done)
          ∷ (call.Begin 1 2, leg 0)
          ∷ (call.Fork 1 0 3 4, legs 1 2)
          ∷ (call.Write 1 1 7 70, done)
          ∷ (call.Write 1 2 7 71, done)
          ∷ (call.Join 1 2 1 5, leg 3)
          ∷ (call.Read 1 3 7, value 70)
          ∷ (call.Commit 1 3 0 32 8, account_reply 0 281474976710656 1 [] (wrote 7 70 ∷ []))
          ∷ [];
    }

-- clock readings beyond the last timestamp, and no time left after it
abbrev pub last_timestamp : Vector
last_timestamp =
    record {
      over = new_table 1024 (lit≤ tt);
      lines =
          (call.Begin 0 0, leg 0)
          ∷ (call.Write 0 0 1 1, done)
          ∷ (call.Commit 0 0 281474976710656 32 8, refused_reply 12 layer.Store 0 0 255)
          ∷ (call.Commit 0 0 18446744073709551615 32 8, refused_reply 12 layer.Store 0 0 255)
          ∷ (call.Commit 0 0 281474976710655 32 8, account_reply 0 281474976710656 281474976710655 [] (wrote 1 1 ∷ []))
          ∷ (call.Begin 0 0, leg 0)
          ∷ (call.Write 0 0 1 2, done)
          ∷ (call.Commit 0 0 281474976710656 32 8, refused_reply 12 layer.Store 0 0 255)
          ∷ (call.Commit 0 0 5 32 8, refused_reply 13 layer.Store 0 0 255)
          ∷ (call.Read 0 0 1, value 2)
          ∷ (call.Read 0 0 2, value 0)
          ∷ (call.Hand 0 0 1, leg 1)
          ∷ (call.Commit 0 1 5 32 8, refused_reply 13 layer.Store 0 1 255)
          ∷ (call.Abandon 0, done)
          ∷ (call.Begin 0 0, leg 0)
          ∷ (call.Read 0 0 2, value 0)
          ∷ (call.Commit 0 0 18446744073709551615 32 8, account_reply 0 281474976710655 0 (read 0 2 0 0 281474976710655 ∷ []) [])
          ∷ (call.Prune 18446744073709551615, done)
          ∷ (call.Begin 0 3, leg 0)
          ∷ (call.Read 0 0 1, value 1)
          ∷ (
            call.Commit 0 0 0 32 8,
            account_reply 281474976710655 281474976710655 0
                (read 3 1 1 281474976710655 281474976710655 ∷ [])
                [],
          )
          ∷ [];
    }

-- more versions of a key than the depth, after which an old interval finds its version gone
abbrev pub more_than_the_depth : Vector
more_than_the_depth =
    record {
      over = new_table 1024 (lit≤ tt);
      lines =
          (call.Begin 3 1, leg 0)
          ∷ (call.Read 3 0 0, value 0)
          ∷ (call.Begin 0 0, leg 0)
          ∷ (call.Write 0 0 5 1, done)
          ∷ (call.Commit 0 0 10 32 8, account_reply 0 281474976710656 10 [] (wrote 5 1 ∷ []))
          ∷ (call.Begin 0 0, leg 0)
          ∷ (call.Write 0 0 5 2, done)
          ∷ (call.Commit 0 0 20 32 8, account_reply 0 281474976710656 20 [] (wrote 5 2 ∷ []))
          ∷ (call.Begin 0 0, leg 0)
          ∷ (call.Write 0 0 5 3, done)
          ∷ (call.Commit 0 0 30 32 8, account_reply 0 281474976710656 30 [] (wrote 5 3 ∷ []))
          ∷ (call.Begin 0 0, leg 0)
          ∷ (call.Write 0 0 5 4, done)
          ∷ (call.Commit 0 0 40 32 8, account_reply 0 281474976710656 40 [] (wrote 5 4 ∷ []))
          ∷ (call.Begin 0 0, leg 0)
          ∷ (call.Write 0 0 5 5, done)
          ∷ (call.Commit 0 0 50 32 8, account_reply 0 281474976710656 50 [] (wrote 5 5 ∷ []))
          ∷ (call.Begin 0 0, leg 0)
          ∷ (call.Write 0 0 5 6, done)
          ∷ (call.Commit 0 0 60 32 8, account_reply 0 281474976710656 60 [] (wrote 5 6 ∷ []))
          ∷ (call.Begin 0 0, leg 0)
          ∷ (call.Write 0 0 5 7, done)
          ∷ (call.Commit 0 0 70 32 8, account_reply 0 281474976710656 70 [] (wrote 5 7 ∷ []))
          ∷ (call.Begin 0 0, leg 0)
          ∷ (call.Write 0 0 5 8, done)
          ∷ (call.Commit 0 0 80 32 8, account_reply 0 281474976710656 80 [] (wrote 5 8 ∷ []))
          ∷ (call.Begin 0 0, leg 0)
          ∷ (call.Write 0 0 5 9, done)
          ∷ (call.Commit 0 0 90 32 8, account_reply 0 281474976710656 90 [] (wrote 5 9 ∷ []))
          ∷ (call.Begin 0 0, leg 0)
          ∷ (call.Write 0 0 5 10, done)
          ∷ (call.Commit 0 0 100 32 8, account_reply 0 281474976710656 100 [] (wrote 5 10 ∷ []))
          ∷ (call.Begin 0 0, leg 0)
          ∷ (call.Write 0 0 5 11, done)
          ∷ (call.Commit 0 0 110 32 8, account_reply 0 281474976710656 110 [] (wrote 5 11 ∷ []))
          ∷ (call.Begin 0 0, leg 0)
          ∷ (call.Write 0 0 5 12, done)
          ∷ (call.Commit 0 0 120 32 8, account_reply 0 281474976710656 120 [] (wrote 5 12 ∷ []))
          ∷ (call.Begin 0 0, leg 0)
          ∷ (call.Write 0 0 5 13, done)
          ∷ (call.Commit 0 0 130 32 8, account_reply 0 281474976710656 130 [] (wrote 5 13 ∷ []))
          ∷ (call.Begin 0 0, leg 0)
          ∷ (call.Write 0 0 5 14, done)
          ∷ (call.Commit 0 0 140 32 8, account_reply 0 281474976710656 140 [] (wrote 5 14 ∷ []))
          ∷ (call.Begin 0 0, leg 0)
          ∷ (call.Write 0 0 5 15, done)
          ∷ (call.Commit 0 0 150 32 8, account_reply 0 281474976710656 150 [] (wrote 5 15 ∷ []))
          ∷ (call.Begin 0 0, leg 0)
          ∷ (call.Write 0 0 5 16, done)
          ∷ (call.Commit 0 0 160 32 8, account_reply 0 281474976710656 160 [] (wrote 5 16 ∷ []))
          ∷ (call.Begin 0 0, leg 0)
          ∷ (call.Write 0 0 5 17, done)
          ∷ (call.Commit 0 0 170 32 8, account_reply 0 281474976710656 170 [] (wrote 5 17 ∷ []))
          ∷ (call.Begin 0 0, leg 0)
          ∷ (call.Write 0 0 5 18, done)
          ∷ (call.Commit 0 0 180 32 8, account_reply 0 281474976710656 180 [] (wrote 5 18 ∷ []))
          ∷ (call.Read 3 0 5, refused_reply 15 layer.Store 3 0 5)
          ∷ (call.Begin 0 0, leg 0)
          ∷ (call.Read 0 0 5, value 18)
          ∷ (call.Commit 0 0 0 32 8, account_reply 180 180 0 (read 0 5 18 180 180 ∷ []) [])
          ∷ (call.Commit 3 0 0 32 8, account_reply 0 0 0 (read 1 0 0 0 0 ∷ []) [])
          ∷ (call.Count, counts 0 0)
          ∷ [];
    }

-- every worker holds eight keys, and of the sixty-four notices of one commit thirty-two wait
abbrev pub sixty_four_notices : Vector
sixty_four_notices =
    record {
      over = new_table 1024 (lit≤ tt);
      lines =
          (call.Begin 0 0, leg 0)
          ∷ (call.Read 0 0 0, value 0)
          ∷ (call.Read 0 0 1, value 0)
          ∷ (call.Read 0 0 2, value 0)
          ∷ (call.Read 0 0 3, value 0)
          ∷ (call.Read 0 0 4, value 0)
          ∷ (call.Read 0 0 5, value 0)
          ∷ (call.Read 0 0 6, value 0)
          ∷ (call.Read 0 0 7, value 0)
          ∷ (
            call.Commit 0 0 0 32 8,
            account_reply 0 0 0
                (read 0 0 0 0 0 ∷ read 0 1 0 0 0 ∷ read 0 2 0 0 0 ∷ read 0 3 0 0 0 ∷ read 0 4 0 0 0 ∷ read 0 5 0 0 0
                ∷ read 0 6 0 0 0 ∷ read 0 7 0 0 0 ∷ [])
                [],
          )
          ∷ (call.Begin 0 1, leg 0)
          ∷ (call.Read 0 0 0, value 0)
          ∷ (call.Read 0 0 1, value 0)
          ∷ (call.Read 0 0 2, value 0)
          ∷ (call.Read 0 0 3, value 0)
          ∷ (call.Read 0 0 4, value 0)
          ∷ (call.Read 0 0 5, value 0)
          ∷ (call.Read 0 0 6, value 0)
          ∷ (call.Read 0 0 7, value 0)
          ∷ (
            call.Commit 0 0 0 32 8,
            account_reply 0 0 0
                (read 1 0 0 0 0 ∷ read 1 1 0 0 0 ∷ read 1 2 0 0 0 ∷ read 1 3 0 0 0 ∷ read 1 4 0 0 0 ∷ read 1 5 0 0 0
                ∷ read 1 6 0 0 0 ∷ read 1 7 0 0 0 ∷ [])
                [],
          )
          ∷ (call.Begin 0 2, leg 0)
          ∷ (call.Read 0 0 0, value 0)
          ∷ (call.Read 0 0 1, value 0)
          ∷ (call.Read 0 0 2, value 0)
          ∷ (call.Read 0 0 3, value 0)
          ∷ (call.Read 0 0 4, value 0)
          ∷ (call.Read 0 0 5, value 0)
          ∷ (call.Read 0 0 6, value 0)
          ∷ (call.Read 0 0 7, value 0)
          ∷ (
            call.Commit 0 0 0 32 8,
            account_reply 0 0 0
                (read 2 0 0 0 0 ∷ read 2 1 0 0 0 ∷ read 2 2 0 0 0 ∷ read 2 3 0 0 0 ∷ read 2 4 0 0 0 ∷ read 2 5 0 0 0
                ∷ read 2 6 0 0 0 ∷ read 2 7 0 0 0 ∷ [])
                [],
          )
          ∷ (call.Begin 0 3, leg 0)
          ∷ (call.Read 0 0 0, value 0)
          ∷ (call.Read 0 0 1, value 0)
          ∷ (call.Read 0 0 2, value 0)
          ∷ (call.Read 0 0 3, value 0)
          ∷ (call.Read 0 0 4, value 0)
          ∷ (call.Read 0 0 5, value 0)
          ∷ (call.Read 0 0 6, value 0)
          ∷ (call.Read 0 0 7, value 0)
          ∷ (
            call.Commit 0 0 0 32 8,
            account_reply 0 0 0
                (read 3 0 0 0 0 ∷ read 3 1 0 0 0 ∷ read 3 2 0 0 0 ∷ read 3 3 0 0 0 ∷ read 3 4 0 0 0 ∷ read 3 5 0 0 0
                ∷ read 3 6 0 0 0 ∷ read 3 7 0 0 0 ∷ [])
                [],
          )
          ∷ (call.Begin 0 4, leg 0)
          ∷ (call.Read 0 0 0, value 0)
          ∷ (call.Read 0 0 1, value 0)
          ∷ (call.Read 0 0 2, value 0)
          ∷ (call.Read 0 0 3, value 0)
          ∷ (call.Read 0 0 4, value 0)
          ∷ (call.Read 0 0 5, value 0)
          ∷ (call.Read 0 0 6, value 0)
          ∷ (call.Read 0 0 7, value 0)
          ∷ (
            call.Commit 0 0 0 32 8,
            account_reply 0 0 0
                (read 4 0 0 0 0 ∷ read 4 1 0 0 0 ∷ read 4 2 0 0 0 ∷ read 4 3 0 0 0 ∷ read 4 4 0 0 0 ∷ read 4 5 0 0 0
                ∷ read 4 6 0 0 0 ∷ read 4 7 0 0 0 ∷ [])
                [],
          )
          ∷ (call.Begin 0 5, leg 0)
          ∷ (call.Read 0 0 0, value 0)
          ∷ (call.Read 0 0 1, value 0)
          ∷ (call.Read 0 0 2, value 0)
          ∷ (call.Read 0 0 3, value 0)
          ∷ (call.Read 0 0 4, value 0)
          ∷ (call.Read 0 0 5, value 0)
          ∷ (call.Read 0 0 6, value 0)
          ∷ (call.Read 0 0 7, value 0)
          ∷ (
            call.Commit 0 0 0 32 8,
            account_reply 0 0 0
                (read 5 0 0 0 0 ∷ read 5 1 0 0 0 ∷ read 5 2 0 0 0 ∷ read 5 3 0 0 0 ∷ read 5 4 0 0 0 ∷ read 5 5 0 0 0
                ∷ read 5 6 0 0 0 ∷ read 5 7 0 0 0 ∷ [])
                [],
          )
          ∷ (call.Begin 0 6, leg 0)
          ∷ (call.Read 0 0 0, value 0)
          ∷ (call.Read 0 0 1, value 0)
          ∷ (call.Read 0 0 2, value 0)
          ∷ (call.Read 0 0 3, value 0)
          ∷ (call.Read 0 0 4, value 0)
          ∷ (call.Read 0 0 5, value 0)
          ∷ (call.Read 0 0 6, value 0)
          ∷ (call.Read 0 0 7, value 0)
          ∷ (
            call.Commit 0 0 0 32 8,
            account_reply 0 0 0
                (read 6 0 0 0 0 ∷ read 6 1 0 0 0 ∷ read 6 2 0 0 0 ∷ read 6 3 0 0 0 ∷ read 6 4 0 0 0 ∷ read 6 5 0 0 0
                ∷ read 6 6 0 0 0 ∷ read 6 7 0 0 0 ∷ [])
                [],
          )
          ∷ (call.Begin 0 7, leg 0)
          ∷ (call.Read 0 0 0, value 0)
          ∷ (call.Read 0 0 1, value 0)
          ∷ (call.Read 0 0 2, value 0)
          ∷ (call.Read 0 0 3, value 0)
          ∷ (call.Read 0 0 4, value 0)
          ∷ (call.Read 0 0 5, value 0)
          ∷ (call.Read 0 0 6, value 0)
          ∷ (call.Read 0 0 7, value 0)
          ∷ (
            call.Commit 0 0 0 32 8,
            account_reply 0 0 0
                (read 7 0 0 0 0 ∷ read 7 1 0 0 0 ∷ read 7 2 0 0 0 ∷ read 7 3 0 0 0 ∷ read 7 4 0 0 0 ∷ read 7 5 0 0 0
                ∷ read 7 6 0 0 0 ∷ read 7 7 0 0 0 ∷ [])
                [],
          )
          ∷ (call.Begin 0 0, leg 0)
          ∷ (call.Write 0 0 0 7, done)
          ∷ (call.Write 0 0 1 7, done)
          ∷ (call.Write 0 0 2 7, done)
          ∷ (call.Write 0 0 3 7, done)
          ∷ (call.Write 0 0 4 7, done)
          ∷ (call.Write 0 0 5 7, done)
          ∷ (call.Write 0 0 6 7, done)
          ∷ (call.Write 0 0 7 7, done)
          ∷ (
            call.Commit 0 0 50 32 8,
            account_reply 0 281474976710656 50
                []
                (wrote 0 7 ∷ wrote 1 7 ∷ wrote 2 7 ∷ wrote 3 7 ∷ wrote 4 7 ∷ wrote 5 7 ∷ wrote 6 7 ∷ wrote 7 7 ∷ []),
          )
          ∷ (call.Count, counts 32 32)
          ∷ (call.Begin 0 2, leg 0)
          ∷ (call.Read 0 0 3, value 0)
          ∷ (call.Deliver 26, done)
          ∷ (call.Read 0 0 3, value 0)
          ∷ (call.Hand 0 0 2, leg 1)
          ∷ (call.Read 0 1 3, value 0)
          ∷ (call.Commit 0 1 0 32 8, account_reply 0 0 0 (read 2 3 0 0 0 ∷ read 2 3 0 0 49 ∷ []) [])
          ∷ (call.Begin 1 2, leg 0)
          ∷ (call.Read 1 0 3, value 7)
          ∷ (call.Deliver 26, done)
          ∷ (call.Commit 1 0 0 32 8, account_reply 50 50 0 (read 2 3 7 50 50 ∷ []) [])
          ∷ (call.Discard 31, done)
          ∷ (call.Discard 0, done)
          ∷ (call.Count, counts 30 32)
          ∷ (call.Deliver 31, refused_reply 16 layer.Notices 255 255 255)
          ∷ (call.Begin 0 1, leg 0)
          ∷ (call.Write 0 0 0 8, done)
          ∷ (call.Commit 0 0 60 32 8, account_reply 0 281474976710656 60 [] (wrote 0 8 ∷ []))
          ∷ (call.Deliver 0, done)
          ∷ (call.Count, counts 32 38)
          ∷ [];
    }

-- a ninth key takes the place of the entry used longest ago, which a hit has made another than the first; the notices tell which
abbrev pub ninth_entry : Vector
ninth_entry =
    record {
      over = new_table 1024 (lit≤ tt);
      lines =
          (call.Begin 0 0, leg 0)
          ∷ (call.Read 0 0 0, value 0)
          ∷ (call.Read 0 0 1, value 0)
          ∷ (call.Read 0 0 2, value 0)
          ∷ (call.Read 0 0 3, value 0)
          ∷ (call.Read 0 0 4, value 0)
          ∷ (call.Read 0 0 5, value 0)
          ∷ (call.Read 0 0 6, value 0)
          ∷ (call.Read 0 0 7, value 0)
          ∷ (
            call.Commit 0 0 0 32 8,
            account_reply 0 0 0
                (read 0 0 0 0 0 ∷ read 0 1 0 0 0 ∷ read 0 2 0 0 0 ∷ read 0 3 0 0 0 ∷ read 0 4 0 0 0 ∷ read 0 5 0 0 0
                ∷ read 0 6 0 0 0 ∷ read 0 7 0 0 0 ∷ [])
                [],
          )
          ∷ (call.Begin 0 0, leg 0)
          ∷ (call.Read 0 0 0, value 0)
          ∷ (call.Read 0 0 8, value 0)
          ∷ (call.Commit 0 0 0 32 8, account_reply 0 0 0 (read 0 0 0 0 0 ∷ read 0 8 0 0 0 ∷ []) [])
          ∷ (call.Begin 1 7, leg 0)
          ∷ (call.Write 1 0 0 1, done)
          ∷ (call.Write 1 0 1 1, done)
          ∷ (call.Write 1 0 2 1, done)
          ∷ (call.Write 1 0 8 1, done)
          ∷ (call.Commit 1 0 9 32 8, account_reply 0 281474976710656 9 [] (wrote 0 1 ∷ wrote 1 1 ∷ wrote 2 1 ∷ wrote 8 1 ∷ []))
          ∷ (call.Count, counts 3 0)
          ∷ (call.Deliver 0, done)
          ∷ (call.Deliver 1, done)
          ∷ (call.Deliver 2, done)
          ∷ (call.Begin 0 0, leg 0)
          ∷ (call.Read 0 0 0, value 1)
          ∷ (call.Read 0 0 1, value 1)
          ∷ (call.Read 0 0 2, value 1)
          ∷ (call.Read 0 0 8, value 1)
          ∷ (call.Commit 0 0 0 32 8, account_reply 9 9 0 (read 0 0 1 9 9 ∷ read 0 1 1 9 9 ∷ read 0 2 1 9 9 ∷ read 0 8 1 9 9 ∷ []) [])
          ∷ [];
    }
