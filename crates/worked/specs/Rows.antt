-- The worked cases, A to H, by hand from docs/RULES.md. tests/worked takes them from this page and plays them through the programs, so each line and each
-- rule stands on a line of its own.
use Rattle.std.specs.Prelude.{List, [], ◌∷◌, codes}
use Rattle.worked.specs.Played.{Row, allow, deny, from_client, from_server, to_server, to_client, end_client, down_server, Refused, fault_at}

-- A. A code for a plain byte becomes that byte.
abbrev pub code_undone : Row
code_undone = record {
  rules =
      allow (codes "GET") (codes "/") ∷
      [];
  lines =
      from_client 1 (codes "GET /a%62 HTTP/1.1\r\nHost: h\r\n\r\n") ∷
      to_server 1 (codes "GET /ab HTTP/1.1\r\nhost: h\r\n\r\n") ∷
      [];
  sent = 29;
}

-- B. Chunks go out as one body, by its length.
abbrev pub chunks_joined : Row
chunks_joined = record {
  rules =
      allow (codes "POST") (codes "/") ∷
      [];
  lines =
      from_client 1 (codes "POST /b HTTP/1.1\r\nHost: h\r\nTransfer-Encoding: chunked\r\n\r\n2\r\nx=\r\n1\r\n1\r\n0\r\n\r\n") ∷
      to_server 1 (codes "POST /b HTTP/1.1\r\nhost: h\r\ncontent-length: 3\r\n\r\nx=1") ∷
      [];
  sent = 51;
}

-- C. An empty part.
abbrev pub empty_part : Row
empty_part = record {
  rules =
      allow (codes "GET") (codes "/") ∷
      [];
  lines =
      from_client 1 (codes "GET /a//b HTTP/1.1\r\nHost: h\r\n\r\n") ∷
      to_client 1 (codes "HTTP/1.1 400 10\r\ncontent-length: 0\r\n\r\n") ∷
      [];
  sent = 0;
}

-- C. A part that ends with a dot once its codes are undone.
abbrev pub dots_in_codes : Row
dots_in_codes = record {
  rules =
      allow (codes "GET") (codes "/") ∷
      [];
  lines =
      from_client 1 (codes "GET /a/%2e%2e/b HTTP/1.1\r\nHost: h\r\n\r\n") ∷
      to_client 1 (codes "HTTP/1.1 400 10\r\ncontent-length: 0\r\n\r\n") ∷
      [];
  sent = 0;
}

-- C. A code for a slash.
abbrev pub slash_in_code : Row
slash_in_code = record {
  rules =
      allow (codes "GET") (codes "/") ∷
      [];
  lines =
      from_client 1 (codes "GET /a%2fb HTTP/1.1\r\nHost: h\r\n\r\n") ∷
      to_client 1 (codes "HTTP/1.1 400 9\r\ncontent-length: 0\r\n\r\n") ∷
      [];
  sent = 0;
}

-- C. A code for a byte above 127 stays, its digits in capitals.
abbrev pub code_kept : Row
code_kept = record {
  rules =
      allow (codes "GET") (codes "/") ∷
      [];
  lines =
      from_client 1 (codes "GET /%e9 HTTP/1.1\r\nHost: h\r\n\r\n") ∷
      to_server 1 (codes "GET /%E9 HTTP/1.1\r\nhost: h\r\n\r\n") ∷
      [];
  sent = 30;
}

-- D. A length and an encoding. It is not known where the next request would begin, so the client's connection ends.
abbrev pub framed_twice : Row
framed_twice = record {
  rules =
      allow (codes "POST") (codes "/") ∷
      [];
  lines =
      from_client 1 (codes "POST /b HTTP/1.1\r\nHost: h\r\nContent-Length: 3\r\nTransfer-Encoding: chunked\r\n\r\n") ∷
      to_client 1 (codes "HTTP/1.1 400 5\r\ncontent-length: 0\r\n\r\n") ∷
      end_client 1 ∷
      [];
  sent = 0;
}

-- D. A length where the method has no body.
abbrev pub body_unwanted : Row
body_unwanted = record {
  rules =
      allow (codes "GET") (codes "/") ∷
      [];
  lines =
      from_client 1 (codes "GET /b HTTP/1.1\r\nHost: h\r\nContent-Length: 0\r\n\r\n") ∷
      to_client 1 (codes "HTTP/1.1 411 6\r\ncontent-length: 0\r\n\r\n") ∷
      end_client 1 ∷
      [];
  sent = 0;
}

-- D. No body said where the method has one.
abbrev pub body_unsaid : Row
body_unsaid = record {
  rules =
      allow (codes "POST") (codes "/") ∷
      [];
  lines =
      from_client 1 (codes "POST /b HTTP/1.1\r\nHost: h\r\n\r\n") ∷
      to_client 1 (codes "HTTP/1.1 411 6\r\ncontent-length: 0\r\n\r\n") ∷
      end_client 1 ∷
      [];
  sent = 0;
}

-- E. The first rule that fits decides, and it compares whole parts, without case.
abbrev pub first_rule : Row
first_rule = record {
  rules =
      deny (codes "GET") (codes "/admin") ∷
      allow (codes "GET") (codes "/") ∷
      [];
  lines =
      from_client 1 (codes "GET /Admin/x HTTP/1.1\r\nHost: h\r\n\r\n") ∷
      to_client 1 (codes "HTTP/1.1 403 12\r\ncontent-length: 0\r\n\r\n") ∷
      from_client 1 (codes "GET /administration HTTP/1.1\r\nHost: h\r\n\r\n") ∷
      to_server 1 (codes "GET /administration HTTP/1.1\r\nhost: h\r\n\r\n") ∷
      [];
  sent = 41;
}

-- F. Two responses in one piece go to the two clients who asked, in that order.
abbrev pub one_each : Row
one_each = record {
  rules =
      allow (codes "GET") (codes "/") ∷
      [];
  lines =
      from_client 1 (codes "GET /1 HTTP/1.1\r\nHost: h\r\n\r\n") ∷
      to_server 1 (codes "GET /1 HTTP/1.1\r\nhost: h\r\n\r\n") ∷
      from_client 2 (codes "GET /2 HTTP/1.1\r\nHost: h\r\n\r\n") ∷
      to_server 1 (codes "GET /2 HTTP/1.1\r\nhost: h\r\n\r\n") ∷
      from_server 1 (codes "HTTP/1.1 200 OK\r\nContent-Length: 3\r\n\r\noneHTTP/1.1 404 Not Found\r\nContent-Length: 3\r\n\r\ntwo") ∷
      to_client 1 (codes "HTTP/1.1 200 OK\r\ncontent-length: 3\r\n\r\none") ∷
      to_client 2 (codes "HTTP/1.1 404 Not Found\r\ncontent-length: 3\r\n\r\ntwo") ∷
      [];
  sent = 56;
}

-- F. After 100 the client still waits, and gets 200 too. Then nobody waits: one byte more brings the connection down, and nobody is told.
abbrev pub early_and_last : Row
early_and_last = record {
  rules =
      allow (codes "GET") (codes "/") ∷
      [];
  lines =
      from_client 1 (codes "GET / HTTP/1.1\r\nHost: h\r\n\r\n") ∷
      to_server 1 (codes "GET / HTTP/1.1\r\nhost: h\r\n\r\n") ∷
      from_server 1 (codes "HTTP/1.1 100 Continue\r\n\r\n") ∷
      to_client 1 (codes "HTTP/1.1 100 Continue\r\n\r\n") ∷
      from_server 1 (codes "HTTP/1.1 200 OK\r\nContent-Length: 2\r\n\r\nhi") ∷
      to_client 1 (codes "HTTP/1.1 200 OK\r\ncontent-length: 2\r\n\r\nhi") ∷
      from_server 1 (codes "H") ∷
      down_server 1 ∷
      [];
  sent = 27;
}

-- G. A byte from a server that was asked nothing brings its connection down. Who asks then is refused.
abbrev pub unasked : Row
unasked = record {
  rules =
      allow (codes "GET") (codes "/") ∷
      [];
  lines =
      from_server 1 (codes "H") ∷
      down_server 1 ∷
      from_client 1 (codes "GET / HTTP/1.1\r\nHost: h\r\n\r\n") ∷
      to_client 1 (codes "HTTP/1.1 502 14\r\ncontent-length: 0\r\n\r\n") ∷
      [];
  sent = 0;
}

-- H. A response to HEAD ends with its empty line, whatever length it says; the next bytes begin the second response.
abbrev pub head_asked : Row
head_asked = record {
  rules =
      allow (codes "GET,HEAD") (codes "/") ∷
      [];
  lines =
      from_client 1 (codes "HEAD / HTTP/1.1\r\nHost: h\r\n\r\n") ∷
      to_server 1 (codes "HEAD / HTTP/1.1\r\nhost: h\r\n\r\n") ∷
      from_client 2 (codes "GET / HTTP/1.1\r\nHost: h\r\n\r\n") ∷
      to_server 1 (codes "GET / HTTP/1.1\r\nhost: h\r\n\r\n") ∷
      from_server 1 (codes "HTTP/1.1 200 OK\r\nContent-Length: 5\r\n\r\nHTTP/1.1 200 OK\r\nContent-Length: 5\r\n\r\nhello") ∷
      to_client 1 (codes "HTTP/1.1 200 OK\r\n\r\n") ∷
      to_client 2 (codes "HTTP/1.1 200 OK\r\ncontent-length: 5\r\n\r\nhello") ∷
      [];
  sent = 55;
}

abbrev pub rows : List Row
rows =
    code_undone ∷ chunks_joined ∷ empty_part ∷ dots_in_codes ∷ slash_in_code ∷ code_kept ∷ framed_twice ∷ body_unwanted ∷ body_unsaid ∷ first_rule ∷ one_each ∷
    early_and_last ∷ unasked ∷ head_asked ∷ []

-- The faults of C and D: the number, and the place in the request.
abbrev pub refused : List Refused
refused =
    fault_at 10 7 (codes "GET /a//b HTTP/1.1\r\nHost: h\r\n\r\n") ∷
    fault_at 10 13 (codes "GET /a/%2e%2e/b HTTP/1.1\r\nHost: h\r\n\r\n") ∷
    fault_at 9 6 (codes "GET /a%2fb HTTP/1.1\r\nHost: h\r\n\r\n") ∷
    fault_at 5 46 (codes "POST /b HTTP/1.1\r\nHost: h\r\nContent-Length: 3\r\nTransfer-Encoding: chunked\r\n\r\n") ∷
    fault_at 6 26 (codes "GET /b HTTP/1.1\r\nHost: h\r\nContent-Length: 0\r\n\r\n") ∷
    fault_at 6 27 (codes "POST /b HTTP/1.1\r\nHost: h\r\n\r\n") ∷
    []
